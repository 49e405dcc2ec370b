-- SPDX-License-Identifier: ISC
use Rattle.std.proofs.Common.{◌≡◌, ◌+◌, ◌-◌, ◌*◌, ◌∙◌, map, refl, sym, arith}
use Rattle.ring_core.specs.Prelude.{rounds_from}
use Rattle.ring_core.proofs.Sha2Steps.{block_step-rounds, rounds-turns}
use Rattle.ring_core.proofs.digest.sha2.by_fours.run_ahead.Goals as goal

pub ahead-init : goal.ahead-init
unfolding rounds_from
ahead-init g c = λ i b n loaded here.
    let zero : n ≡ 0 = omega arith in
    record { schedule = rw zero loaded; variables = rw zero refl }

pub ahead-preserved : goal.ahead-preserved
ahead-preserved g c = λ i b n loaded here.
    let h = map (g.S.LaneWord.lane i) c.args.state.now in
    let before : n - 4 + 4 ≡ 4 * c.ahead.turn = omega arith in
    let e : n - 4 + 4 ≡ n = omega arith in
    rw e at (c.turn_ahead.ensures i h b (n - 4) before
    (c.ahead.invariant i b (n - 4) loaded before))

pub returns : goal.returns
returns g c = λ i b loaded.
    let f = g.S.One.Sha2.family in
    let met = g.met.S.One.Sha2.numbers in
    let h = map (g.S.LaneWord.lane i) c.args.state.now in
    let whole = rounds-turns f met.which in
    let end : c.ROUNDS-turns.result ≡ f.rounds = c.ROUNDS-turns.ensures ∙ met.rounds_are in
    let n = 4 * c.ahead.turn - 4 in
    let here : n + 4 ≡ 4 * c.ahead.turn =
    omega (arith, whole.0, whole.1, end, c.ahead-test.false, c.ahead.auto.turn-end) in
    let done : 4 * (n + 4) ≡ f.rounds =
    omega (arith, whole.0, whole.1, end, c.ahead-test.false, c.ahead.auto.turn-end) in
    let before = c.ahead.invariant i b n loaded here in
    let last = c.last_turn-last.ensures i h b n (omega arith) before.schedule.ready
    before.variables in
    rw (c.add_state.ensures i, last, done, met.bits_are) (sym (block_step-rounds f h b))
