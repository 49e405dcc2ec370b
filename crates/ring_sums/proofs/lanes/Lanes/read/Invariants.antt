-- SPDX-License-Identifier: ISC
use Rattle.std.proofs.Common.{◌≡◌}
use Rattle.ring_sums.proofs.InLanes.{AreStepped}
use Rattle.ring_sums.specs.Lane.{IsRead}
use Rattle.ring_sums.proofs.lanes.Lanes.read.Given as goal

-- the first i lanes have read
abbrev pub invariant-lanes : goal.invariant-lanes
invariant-lanes g l =
    record {
      reading : AreStepped (IsRead g.R.Read.remaining g.R.Source.fails_with) l.fn.self.lanes.items
          l.self.lanes.items l.i;
      contexts : l.self.contexts.items ≡ l.fn.self.contexts.items;
    }
