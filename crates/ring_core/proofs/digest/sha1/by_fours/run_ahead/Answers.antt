-- SPDX-License-Identifier: ISC
use Rattle.std.proofs.Common.{map, refl, rules, sym, take}
use Rattle.ring_core.specs.Prelude.{word_32}
use Rattle.ring_core.specs.Sha1.{rounds_from}
use Rattle.ring_core.proofs.Mapped.{first_five}
use Rattle.ring_core.proofs.Sha1Steps.{block_step-rounds}
use Rattle.ring_core.proofs.digest.sha1.by_fours.run_ahead.Goals as goal

pub returns-clause-words : goal.returns-clause-words
unfolding rounds_from
returns-clause-words c = λ b fits ready.
    let state = c.args.state.now in
    let h = take 5 (map word_32 state) in
    let turn1 = c.first_turn-next.ensures h b (record {
      schedule = ready;
      variables = first_five word_32 state (search rules) _ _ _ _ _;
    }) in
    let turn2 = c.later_turn-newer.ensures h b 0 refl fits ready.sixteen turn1 in
    let turn3 = c.later_turn-newest.ensures h b 4 refl fits turn1.schedule.sixteen turn2 in
    let turn4 = c.later_turn.ensures h b 8 refl fits turn2.schedule.sixteen turn3 in
    let done = c.last_turn-last.ensures h b turn4.schedule.ready turn4.variables in
    rw (c.add_state.ensures.words 0, done) (sym (block_step-rounds h b))
