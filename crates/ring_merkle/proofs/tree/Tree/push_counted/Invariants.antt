-- SPDX-License-Identifier: ISC
use Rattle.std.proofs.Common.{◌≡◌, ◌+◌, ◌-◌, ◌^◌, ◌<◌, ℕ, List, length}
use Rattle.ring.specs.Prelude.{raised}
use Rattle.ring_merkle.specs.Cost.{push_blocks}
use Rattle.ring_merkle.specs.Stack.{Holds}
use Rattle.ring_merkle.proofs.Stacks.{Carried}
use Rattle.ring_merkle.proofs.tree.Tree.push_counted.Given as goal

abbrev pub invariant-loop-level : goal.invariant-loop-level
invariant-loop-level l = record {
  places : length l.self.roots ≡ 64;
  room : l.count + 1 < 2 ^ (64 - l.level);
  size : l.self.size ≡ l.fn.self.size + 1;
  carried : (xs : List (List ℕ)) → Holds l.fn.self xs
      → Carried l.self.roots xs l.level l.count l.hash l.fn.leaf;
  cost : raised l.fn.meter (push_blocks l.fn.self.size) 0 ≡ raised l.meter (push_blocks l.count) 0;
}
