-- SPDX-License-Identifier: ISC
use Rattle.std.proofs.Common.{◌≡◌, ◌+◌, arith, refl}
use Rattle.std.proofs.Math.Nat.{add_assoc}
use Rattle.ring_core.specs.Prelude.{W, family_256, four}
use Rattle.ring_core.proofs.digest.sha2.by_instruction.turn_ahead.Goals as goal

pub returns : goal.returns
returns g c = λ h b n at words before.
    let w = four (W family_256 b) in
    let fifth : c.next_four-fifth.result ≡ w (n + 4) =
    c.next_four-fifth.ensures b n (rw words refl) in
    let sixth : c.next_four-sixth.result ≡ w (n + 1 + 4) =
    c.next_four-sixth.ensures b (n + 1) (rw (words, fifth) (simp add_assoc refl)) in
    let seventh : c.next_four-seventh.result ≡ w (n + 2 + 4) =
    c.next_four-seventh.ensures b (n + 2) (rw (words, fifth, sixth) (simp add_assoc refl)) in
    let eighth : c.next_four-eighth.result ≡ w (n + 3 + 4) =
    c.next_four-eighth.ensures b (n + 3)
    (rw (words, fifth, sixth, seventh) (simp add_assoc refl)) in
    let v1 = c.four_rounds-v.ensures h b n
    (c.with_constants.ensures b n at (rw words refl)) before in
    let v2 = c.four_rounds-v-2.ensures h b (n + 1)
    (c.with_constants-2.ensures b (n + 1) (omega arith) (rw words refl)) v1 in
    let v3 = c.four_rounds-v-3.ensures h b (n + 1 + 1)
    (c.with_constants-3.ensures b (n + 1 + 1) (omega arith)
    (rw words (simp add_assoc refl))) v2 in
    let v4 = c.four_rounds.ensures h b (n + 1 + 1 + 1)
    (c.with_constants-4.ensures b (n + 1 + 1 + 1) (omega arith)
    (rw words (simp add_assoc refl))) v3 in
    (simp add_assoc at v4, rw (fifth, sixth, seventh, eighth) (simp add_assoc refl))
