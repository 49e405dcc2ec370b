-- SPDX-License-Identifier: ISC
use Rattle.std.proofs.Common.{◌≡◌, ◌+◌, arith}
use Rattle.ring_core.proofs.digest.sha2.by_fours.last_turn.Goals as goal

pub returns : goal.returns
returns g c = λ i h b n whole ready start.
    let r1 = c.four_rounds-v.ensures i h b (n + 4) n ready (omega arith) (omega arith) (omega arith)
    start in
    let r2 = c.four_rounds-v-2.ensures i h b (n + 4) (n + 1) ready (omega arith) (omega arith)
    (omega arith) r1 in
    let r3 = c.four_rounds-v-3.ensures i h b (n + 4) (n + 1 + 1) ready (omega arith) (omega arith)
    (omega arith) r2 in
    let e : n + 1 + 1 + 1 + 1 ≡ n + 4 = omega arith in
    rw e at (c.four_rounds.ensures i h b (n + 4) (n + 1 + 1 + 1) ready (omega arith) (omega arith)
    (omega arith) r3)
