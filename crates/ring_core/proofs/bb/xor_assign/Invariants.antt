-- SPDX-License-Identifier: ISC
use Rattle.std.proofs.Common.{◌≡◌, ◌++◌, map, take, drop}
use Rattle.ring_core.specs.Prelude.{◌⊕◌}
use Rattle.ring_core.proofs.bb.xor_assign.Given as goal

abbrev pub invariant-bytes : goal.invariant-bytes
invariant-bytes l = l.a ≡ map (λ x. x ⊕ l.b) (take l.i l.initial.a) ++ drop l.i l.initial.a
