-- SPDX-License-Identifier: ISC
use Rattle.std.proofs.Common.{refl, arith}
use Rattle.ring_core.proofs.digest.sha1.by_fours.last_turn.Goals as goal

pub returns : goal.returns
returns c = λ h b ready before.
    let r1 = c.four_rounds-v.ensures h b 20 16 refl ready (omega arith) (omega arith) before in
    let r2 = c.four_rounds-v-2.ensures h b 20 17 refl ready (omega arith) (omega arith) r1 in
    let r3 = c.four_rounds-v-3.ensures h b 20 18 refl ready (omega arith) (omega arith) r2 in
    c.four_rounds.ensures h b 20 19 refl ready (omega arith) (omega arith) r3
