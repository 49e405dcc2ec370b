-- SPDX-License-Identifier: ISC
use Rattle.ring_sums.proofs.SumsToCome.{given-next}
use Rattle.ring_sums.proofs.sums.Sums.next_outcome.Goals as goal

pub returns-then-is_ready : goal.returns-then-is_ready
returns-then-is_ready g c = λ a readers first.
    given-next {old = c.rounds.self} c.take_first.new.found c.take_first.result readers
    c.take_first.ensures.rest c.take_first.ensures.first (c.is_ready.ensures c.if-is_ready.true)
    (c.rounds.invariant a readers first)
