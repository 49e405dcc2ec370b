-- SPDX-License-Identifier: ISC
use Rattle.ring_sums.proofs.lanes.Lanes.update.Goals as goal

pub returns-clause-going : goal.returns-clause-going
returns-clause-going g c = λ a readers all.
    c.skip.ensures.going a readers (c.in_ok-take_in.ensures.taken a readers all)
