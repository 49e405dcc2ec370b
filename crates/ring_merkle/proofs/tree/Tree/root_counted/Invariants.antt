-- SPDX-License-Identifier: ISC
use Rattle.std.proofs.Common.{◌≡◌, ◌-◌, ◌^◌, ◌<◌, ℕ, List, drop}
use Rattle.ring.specs.Prelude.{raised}
use Rattle.ring_merkle.specs.Cost.{root_blocks}
use Rattle.ring_merkle.specs.Stack.{Holds}
use Rattle.ring_merkle.proofs.Joins.{joins}
use Rattle.ring_merkle.proofs.Stacks.{Reached}
use Rattle.ring_merkle.proofs.tree.Tree.root_counted.Given as goal

abbrev pub invariant-loop-root : goal.invariant-loop-root
invariant-loop-root l = record {
  reached : (xs : List (List ℕ)) → Holds l.fn.self xs
      → Reached (drop l.root-index l.fn.self.roots) xs l.count l.last;
  few : l.count < 2 ^ (64 - l.root-index);
  cost : raised l.fn.meter (root_blocks l.fn.self.size) 0 ≡ raised l.meter (joins l.last l.count) 0;
}
