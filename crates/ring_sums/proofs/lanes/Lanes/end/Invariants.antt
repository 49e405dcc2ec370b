-- SPDX-License-Identifier: ISC
use Rattle.std.proofs.Common.{◌≡◌, ◌-◌, List, length, vec_len}
use Rattle.ring.specs.declared.digest.algorithm.Algorithm.{Algorithm}
use Rattle.ring_sums.specs.Found.{AreFound}
use Rattle.ring_sums.specs.Lane.{left_of}
use Rattle.ring_sums.specs.Lanes.{AreIn}
use Rattle.ring_sums.proofs.lanes.Lanes.end.Given as goal

abbrev pub decreases-lanes : goal.decreases-lanes
decreases-lanes g l = vec_len l.self.lanes - l.i

-- the lanes that are left are in, among them those of all outcomes that are not found, and the
-- outcomes so far are those of their readers
abbrev pub invariant-lanes : goal.invariant-lanes
invariant-lanes g l =
    record {
      count : length l.found.items ≡ length l.fn.found.items;
      going : (a : Algorithm) (readers : List g.row.R.Denot)
          → AreIn g.R.Read.remaining g.R.Source.fails_with a readers left_of l.fn.self.lanes.items
          l.fn.self.contexts.items
          → AreFound g.R.Read.remaining g.R.Source.fails_with a readers l.given l.fn.found.items
          l.fn.self.lanes.items
          → AreIn g.R.Read.remaining g.R.Source.fails_with a readers left_of l.self.lanes.items
          l.self.contexts.items
          × AreFound g.R.Read.remaining g.R.Source.fails_with a readers l.given l.found.items
          l.self.lanes.items;
    }
