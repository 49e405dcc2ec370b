-- SPDX-License-Identifier: ISC
use Rattle.std.proofs.Common.{◌≡◌}
use Rattle.ring_sums.specs.Lane.{IsSkipped}
use Rattle.ring_sums.proofs.InLanes.{AreStepped}
use Rattle.ring_sums.proofs.lanes.Lanes.skip.Given as goal

-- the first i lanes are counted
abbrev pub invariant-lanes : goal.invariant-lanes
invariant-lanes g l =
    record {
      stepped : AreStepped (IsSkipped l.count) l.fn.self.lanes.items l.self.lanes.items l.i;
      contexts : l.self.contexts.items ≡ l.fn.self.contexts.items;
    }
