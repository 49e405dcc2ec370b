-- SPDX-License-Identifier: ISC
use Rattle.std.proofs.Common.{◌+◌, arith}
use Rattle.std.proofs.Math.Nat.{add_assoc}
use Rattle.ring_core.proofs.digest.sha2.by_fours.turn_ahead.Goals as goal

pub returns : goal.returns
returns g c = λ i h b n here before.
    let r1 = c.four_rounds_ahead-v.ensures i h b n (omega arith) before in
    let r2 = c.four_rounds_ahead-v-2.ensures i h b (n + 1) (omega arith) r1 in
    let r3 = c.four_rounds_ahead-v-3.ensures i h b (n + 1 + 1) (omega arith) r2 in
    simp add_assoc at (c.four_rounds_ahead.ensures i h b (n + 1 + 1 + 1) (omega arith) r3)
