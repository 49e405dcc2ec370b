-- SPDX-License-Identifier: ISC
use Rattle.std.proofs.Common.{◌≡◌, ◌+◌, arith, refl}
use Rattle.std.proofs.Math.Nat.{add_assoc}
use Rattle.ring_core.specs.Prelude.{four}
use Rattle.ring_core.specs.Sha1.{W}
use Rattle.ring_core.proofs.Sha1FourWords.{W-later_four}
use Rattle.ring_core.proofs.digest.sha1.by_fours.later_turn.Goals as goal

pub returns : goal.returns
returns g c = λ h b n here fits old before.
    let w = four (W b) in
    let new = simp add_assoc at before.schedule.sixteen in
    let ninth : c.later_four-ninth.result ≡ w (n + 8) =
    rw (c.later_four-ninth.ensures, old, new) (W-later_four b n fits) in
    let tenth : c.later_four-tenth.result ≡ w (n + 9) =
    rw (c.later_four-tenth.ensures, old, new, ninth)
    (simp add_assoc at (W-later_four b (n + 1) fits)) in
    let eleventh : c.later_four-eleventh.result ≡ w (n + 10) =
    rw (c.later_four-eleventh.ensures, old, new, ninth, tenth)
    (simp add_assoc at (W-later_four b (n + 2) fits)) in
    let twelfth : c.later_four-twelfth.result ≡ w (n + 11) =
    rw (c.later_four-twelfth.ensures, old, new, tenth, eleventh)
    (simp add_assoc at (W-later_four b (n + 3) fits)) in
    let r1 = c.four_rounds_ahead-v.ensures h b (n + 4) (omega arith) (simp add_assoc ninth)
    (record { ready = before.schedule.ready; variables = before.variables }) in
    let r2 = c.four_rounds_ahead-v-2.ensures h b (n + 4 + 1) (omega arith) (simp add_assoc tenth)
    r1 in
    let r3 = c.four_rounds_ahead-v-3.ensures h b (n + 4 + 1 + 1) (omega arith)
    (simp add_assoc eleventh) r2 in
    let r4 = c.four_rounds_ahead.ensures h b (n + 4 + 1 + 1 + 1) (omega arith)
    (simp add_assoc twelfth) r3 in
    record {
      schedule = record {
        sixteen = simp add_assoc (rw (ninth, tenth, eleventh, twelfth) refl);
        ready = simp add_assoc (simp add_assoc at r4.ready);
      };
      variables = simp add_assoc at r4.variables;
    }
