-- SPDX-License-Identifier: ISC
use Rattle.std.proofs.Common.{arith, map, rules, sym, take}
use Rattle.ring_core.specs.Sha1.{rounds_from}
use Rattle.ring_core.proofs.Mapped.{first_five}
use Rattle.ring_core.proofs.Sha1Steps.{block_step-rounds, window-loaded}
use Rattle.ring_core.proofs.digest.sha1.window.run_block.Goals as goal

pub returns-clause-words : goal.returns-clause-words
unfolding rounds_from
returns-clause-words g c = λ i b is.
    let f = g.S.LaneWord.lane i in
    let state = c.args.state.now in
    let h = take 5 (map f state) in
    let ready = window-loaded b _ (c.load.ensures i b is) in
    let start = first_five f state (search rules) _ _ _ _ _ in
    let r2 = c.two_rounds-v.ensures i h b 16 ready (omega arith) (omega arith) start in
    let r4 = c.two_rounds-v-2.ensures i h b 16 ready (omega arith) (omega arith) r2 in
    let r6 = c.two_rounds-v-3.ensures i h b 16 ready (omega arith) (omega arith) r4 in
    let r8 = c.two_rounds-v-4.ensures i h b 16 ready (omega arith) (omega arith) r6 in
    let r10 = c.two_rounds-v-5.ensures i h b 16 ready (omega arith) (omega arith) r8 in
    let r12 = c.two_rounds-v-6.ensures i h b 16 ready (omega arith) (omega arith) r10 in
    let r14 = c.two_rounds-v-7.ensures i h b 16 ready (omega arith) (omega arith) r12 in
    let r16 = c.two_rounds-v-8.ensures i h b 16 ready (omega arith) (omega arith) r14 in
    let r20 = c.next_four_rounds-v.ensures i h b (record { words = ready; variables = r16 }) in
    let r24 = c.next_four_rounds-v-2.ensures i h b r20 in
    let r28 = c.next_four_rounds-v-3.ensures i h b r24 in
    let r32 = c.next_four_rounds-v-4.ensures i h b r28 in
    let r36 = c.next_four_rounds-v-5.ensures i h b r32 in
    let r40 = c.next_four_rounds-v-6.ensures i h b r36 in
    let r44 = c.next_four_rounds-v-7.ensures i h b r40 in
    let r48 = c.next_four_rounds-v-8.ensures i h b r44 in
    let r52 = c.next_four_rounds-v-9.ensures i h b r48 in
    let r56 = c.next_four_rounds-v-10.ensures i h b r52 in
    let r60 = c.next_four_rounds-v-11.ensures i h b r56 in
    let r64 = c.next_four_rounds-v-12.ensures i h b r60 in
    let r68 = c.next_four_rounds-v-13.ensures i h b r64 in
    let r72 = c.next_four_rounds-v-14.ensures i h b r68 in
    let r76 = c.next_four_rounds-v-15.ensures i h b r72 in
    let r80 = c.next_four_rounds-last.ensures i h b r76 in
    rw (c.add_state.ensures.words i, r80.variables) (sym (block_step-rounds h b))
