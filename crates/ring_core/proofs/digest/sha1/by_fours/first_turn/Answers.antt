-- SPDX-License-Identifier: ISC
use Rattle.std.proofs.Common.{◌≡◌, refl}
use Rattle.ring_core.specs.Prelude.{four}
use Rattle.ring_core.specs.Sha1.{W}
use Rattle.ring_core.proofs.Sha1FourWords.{W-next_four}
use Rattle.ring_core.proofs.digest.sha1.by_fours.first_turn.Goals as goal

pub returns : goal.returns
returns c = λ h b before.
    let w = four (W b) in
    let words = before.schedule.sixteen in
    let fifth : c.next_four-fifth.result ≡ w 4 =
    rw (c.next_four-fifth.ensures, words) (W-next_four b 0) in
    let sixth : c.next_four-sixth.result ≡ w 5 =
    rw (c.next_four-sixth.ensures, words, fifth) (W-next_four b 1) in
    let seventh : c.next_four-seventh.result ≡ w 6 =
    rw (c.next_four-seventh.ensures, words, fifth, sixth) (W-next_four b 2) in
    let eighth : c.next_four-eighth.result ≡ w 7 =
    rw (c.next_four-eighth.ensures, words, fifth, sixth, seventh) (W-next_four b 3) in
    let r1 = c.four_rounds_ahead-v.ensures h b 0 refl fifth
    (record { ready = before.schedule.ready; variables = before.variables }) in
    let r2 = c.four_rounds_ahead-v-2.ensures h b 1 refl sixth r1 in
    let r3 = c.four_rounds_ahead-v-3.ensures h b 2 refl seventh r2 in
    let r4 = c.four_rounds_ahead.ensures h b 3 refl eighth r3 in
    record {
      schedule = record { sixteen = rw (fifth, sixth, seventh, eighth) refl; ready = r4.ready };
      variables = r4.variables;
    }
