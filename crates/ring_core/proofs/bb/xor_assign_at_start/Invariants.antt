-- SPDX-License-Identifier: ISC
use Rattle.std.proofs.Common.{◌≡◌, take}
use Rattle.ring_core.specs.Prelude.{xor_lists}
use Rattle.ring_core.proofs.bb.xor_assign_at_start.Given as goal

abbrev pub invariant-pairs : goal.invariant-pairs
invariant-pairs l = l.a ≡ xor_lists l.initial.a (take l.i l.b)
