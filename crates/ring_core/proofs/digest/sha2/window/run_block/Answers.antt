-- SPDX-License-Identifier: ISC
use Rattle.std.proofs.Common.{◌≡◌, ◌+◌, ◌*◌, ◌∙◌, arith, map, refl, sym}
use Rattle.ring_core.specs.Prelude.{rounds_from}
use Rattle.ring_core.proofs.Sha2Steps.{block_step-rounds, rounds-turns, window-loaded}
use Rattle.ring_core.proofs.digest.sha2.window.run_block.Goals as goal

pub later-init : goal.later-init
unfolding rounds_from
later-init g c = λ i b is.
    let lane = g.S.LaneWord.lane i in
    let bits = g.met.S.One.Sha2.numbers.bits_are in
    let h = map lane c.args.state.now in
    let f = g.S.One.Sha2.family in
    let ready = window-loaded f g.S.One.Word.bits b _ bits (c.load.ensures i b is) in
    let r2 = c.two_rounds-v.ensures i h b 16 0 ready refl (omega arith) (omega arith) refl in
    let r4 = c.two_rounds-v-2.ensures i h b 16 2 ready refl (omega arith) (omega arith) r2 in
    let r6 = c.two_rounds-v-3.ensures i h b 16 4 ready refl (omega arith) (omega arith) r4 in
    let r8 = c.two_rounds-v-4.ensures i h b 16 6 ready refl (omega arith) (omega arith) r6 in
    let r10 = c.two_rounds-v-5.ensures i h b 16 8 ready refl (omega arith) (omega arith) r8 in
    let r12 = c.two_rounds-v-6.ensures i h b 16 10 ready refl (omega arith) (omega arith) r10 in
    let r14 = c.two_rounds-v-7.ensures i h b 16 12 ready refl (omega arith) (omega arith) r12 in
    let r16 =
    c.two_rounds-variables.ensures i h b 16 14 ready refl (omega arith) (omega arith) r14 in
    record { words = ready; variables = r16 }

pub later-preserved : goal.later-preserved
later-preserved g c = λ i b is.
    let t = 16 * c.later.turn in
    let h = map (g.S.LaneWord.lane i) c.args.state.now in
    let b2 = c.next_two_rounds-v.ensures i h b t (omega arith) (c.later.invariant i b is) in
    let b4 = c.next_two_rounds-v-in-later.ensures i h b (t + 2) (omega arith) b2 in
    let b6 = c.next_two_rounds-v-in-later-2.ensures i h b (t + 2 + 2) (omega arith) b4 in
    let b8 = c.next_two_rounds-v-in-later-3.ensures i h b (t + 2 + 2 + 2) (omega arith) b6 in
    let b10 = c.next_two_rounds-v-in-later-4.ensures i h b (t + 2 + 2 + 2 + 2) (omega arith) b8 in
    let b12 =
    c.next_two_rounds-v-in-later-5.ensures i h b (t + 2 + 2 + 2 + 2 + 2) (omega arith) b10 in
    let b14 =
    c.next_two_rounds-v-in-later-6.ensures i h b (t + 2 + 2 + 2 + 2 + 2 + 2) (omega arith) b12 in
    let b16 =
    c.next_two_rounds-variables.ensures i h b (t + 2 + 2 + 2 + 2 + 2 + 2 + 2) (omega arith) b14 in
    let e : t + 2 + 2 + 2 + 2 + 2 + 2 + 2 + 2 ≡ 16 * (c.later.turn + 1) = omega arith in
    rw e at b16

pub returns : goal.returns
returns g c = λ i b is.
    let f = g.S.One.Sha2.family in
    let met = g.met.S.One.Sha2.numbers in
    let h = map (g.S.LaneWord.lane i) c.args.state.now in
    let whole = rounds-turns f met.which in
    let end : c.ROUNDS-turns.result ≡ f.rounds = c.ROUNDS-turns.ensures ∙ met.rounds_are in
    let done : 16 * c.later.turn ≡ f.rounds =
    omega (arith, whole.0, whole.1, end, c.later-test.false, c.later.auto.turn-end) in
    let last = c.later.invariant i b is in
    rw (c.add_state.ensures i, last.variables, done, met.bits_are) (sym (block_step-rounds f h b))
