-- SPDX-License-Identifier: ISC
use Rattle.ring_merkle.specs.Walk.{is_even}
use Rattle.ring_merkle.proofs.Shifts.{Shifted}
use Rattle.ring_merkle.proofs.place.Place.even.Given as goal

abbrev pub invariant-loop-place : goal.invariant-loop-place
invariant-loop-place l =
    Shifted is_even l.initial.place.node l.initial.place.last l.place.node l.place.last

abbrev pub decreases-loop-place : goal.decreases-loop-place
decreases-loop-place l = l.place.node
