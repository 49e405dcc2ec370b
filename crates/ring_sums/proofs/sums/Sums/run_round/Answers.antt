-- SPDX-License-Identifier: ISC
use Rattle.ring_sums.proofs.SumsToCome.{lanes-kept}
use Rattle.ring_sums.proofs.sums.Sums.run_round.Goals as goal

pub returns-in_ok-update : goal.returns-in_ok-update
returns-in_ok-update g c = λ a readers first.
    lanes-kept c.in_ok-update.ensures.places c.in_ok-update.ensures.going
    (c.in_ok-end.ensures a readers (lanes-kept c.read.ensures.places c.read.ensures.going
    (c.in_ok-begin.ensures a readers first)))

pub returns-else-not-can_begin : goal.returns-else-not-can_begin
returns-else-not-can_begin g c = λ a readers first.
    c.in_ok-end.ensures a readers (lanes-kept c.read.ensures.places c.read.ensures.going
    (c.in_ok-begin.ensures a readers first))
