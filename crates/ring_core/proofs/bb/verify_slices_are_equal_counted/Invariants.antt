-- SPDX-License-Identifier: ISC
use Rattle.std.proofs.Common.{◌≡◌, ◌↔◌, take}
use Rattle.ring_core.specs.Prelude.{raised}
use Rattle.ring_core.proofs.bb.verify_slices_are_equal_counted.Given as goal

abbrev pub invariant-pairs : goal.invariant-pairs
invariant-pairs l = record {
  equal : (l.difference ≡ 0) ↔ (take l.i l.a ≡ take l.i l.b);
  cost : l.meter ≡ raised l.fn.meter 0 l.i;
}
