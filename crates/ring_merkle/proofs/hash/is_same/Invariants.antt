-- SPDX-License-Identifier: ISC
use Rattle.std.proofs.Common.{◌≡◌, take}
use Rattle.ring_merkle.proofs.hash.is_same.Given as goal

-- both hashes begin with the same bytes
abbrev pub invariant-loop-at : goal.invariant-loop-at
invariant-loop-at l = take l.at l.one ≡ take l.at l.other
