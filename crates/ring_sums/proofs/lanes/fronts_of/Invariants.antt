-- SPDX-License-Identifier: ISC
use Rattle.std.proofs.Common.{◌≡◌, map, take}
use Rattle.ring_sums.specs.Lane.{front_of}
use Rattle.ring_sums.proofs.lanes.fronts_of.Given as goal

-- the pieces of the first lanes are there
abbrev pub invariant-lanes : goal.invariant-lanes
invariant-lanes g l =
    map (λ piece. piece.now) l.pieces.items ≡ map (front_of l.count) (take l.lane-index l.lanes)
