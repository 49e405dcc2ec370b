-- SPDX-License-Identifier: ISC
use Rattle.std.proofs.Common.{◌≡◌}
use Rattle.ring_passwords.specs.Listing.{lines_of}
use Rattle.ring_passwords.proofs.listing.listing_of.Given as goal

-- the lines of the names before the index
abbrev pub invariant-loop-index : goal.invariant-loop-index
invariant-loop-index l = l.out.items ≡ lines_of l.store l.index
