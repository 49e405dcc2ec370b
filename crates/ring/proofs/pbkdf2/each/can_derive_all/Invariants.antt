-- SPDX-License-Identifier: ISC
use Rattle.std.proofs.Common.{ℕ, ◌<◌, length}
use Rattle.ring.specs.Prelude.{CanDerive, bytes_at}
use Rattle.ring.proofs.pbkdf2.each.can_derive_all.Given as goal

abbrev pub invariant-places : goal.invariant-places
invariant-places l =
    (k : ℕ) → k < l.i
    → CanDerive l.algorithm (length (bytes_at l.secrets k)) (length (bytes_at l.salts k)) l.len
