-- SPDX-License-Identifier: ISC
use Rattle.std.proofs.Common.{◌≡◌, ℕ, ◌<◌, length}
use Rattle.ring_core.specs.Prelude.{array_at}
use Rattle.ring.proofs.pbkdf2.each.clear.Given as goal

abbrev pub invariant-places : goal.invariant-places
invariant-places g l = (k : ℕ) → k < l.i → length (array_at l.out k) ≡ g.row.N
