-- SPDX-License-Identifier: ISC
use Rattle.std.proofs.Common.{◌≡◌, ◌-◌, ◌*◌, take}
use Rattle.std.specs.Prelude.{count_ones}
use Rattle.ring.specs.Prelude.{raised}
use Rattle.ring_merkle.specs.Cost.{node_blocks}
use Rattle.ring_merkle.specs.Stack.{Holds}
use Rattle.ring_merkle.proofs.paths.tree_root_counted.Given as goal

abbrev pub invariant-loop-leaf : goal.invariant-loop-leaf
invariant-loop-leaf l = record {
  held : Holds l.tree (take l.leaf-index l.leaves);
  cost : l.meter ≡ raised l.fn.meter
      (node_blocks * (l.leaf-index - count_ones l.leaf-index)) 0;
}
