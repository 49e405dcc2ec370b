-- SPDX-License-Identifier: ISC
use Rattle.std.proofs.Common.{◌≡◌, ◌+◌, [], arith, refl}
use Rattle.std.proofs.Math.Nat.{add_assoc}
use Rattle.ring_core.specs.Prelude.{four}
use Rattle.ring_core.specs.Sha1.{W}
use Rattle.ring_core.proofs.FourWords.{in_sixteen}
use Rattle.ring_core.proofs.digest.sha1.by_instruction.twenty_rounds.Goals as goal

pub returns : goal.returns
returns g c = λ h b n at words before.
    let w = four (W b) in
    let x = g.I.Sha1Instructions.in_order in
    let held = in_sixteen (W b) x n c.args.words words in
    let first = held 0 [] (omega arith) in
    let second = held 1 [] (omega arith) in
    let third = held 2 [] (omega arith) in
    let fourth = held 3 [] (omega arith) in
    let fifth : x c.next_four-fifth.result ≡ w (n + 4) =
    c.next_four-fifth.ensures b n (rw (first, second, third, fourth) refl) in
    let sixth : x c.next_four-sixth.result ≡ w (n + 1 + 4) =
    c.next_four-sixth.ensures b (n + 1)
    (rw (second, third, fourth, fifth) (simp add_assoc refl)) in
    let seventh : x c.next_four-seventh.result ≡ w (n + 2 + 4) =
    c.next_four-seventh.ensures b (n + 2)
    (rw (third, fourth, fifth, sixth) (simp add_assoc refl)) in
    let eighth : x c.next_four-eighth.result ≡ w (n + 3 + 4) =
    c.next_four-eighth.ensures b (n + 3)
    (rw (fourth, fifth, sixth, seventh) (simp add_assoc refl)) in
    let ninth : x c.next_four-ninth.result ≡ w (n + 4 + 4) =
    c.next_four-ninth.ensures b (n + 4)
    (rw (fifth, sixth, seventh, eighth) (simp add_assoc refl)) in
    let v1 = c.four_rounds-v.ensures h b n (omega arith) (omega arith) first before in
    let v2 = c.four_rounds-v-2.ensures h b (n + 1) (omega arith) (omega arith) second v1 in
    let v3 = c.four_rounds-v-3.ensures h b (n + 1 + 1) (omega arith) (omega arith)
    (simp add_assoc third) v2 in
    let v4 = c.four_rounds-v-4.ensures h b (n + 1 + 1 + 1) (omega arith) (omega arith)
    (simp add_assoc fourth) v3 in
    let v5 = c.four_rounds.ensures h b (n + 1 + 1 + 1 + 1) (omega arith) (omega arith)
    (simp add_assoc fifth) v4 in
    (simp add_assoc at v5, rw (sixth, seventh, eighth, ninth) (simp add_assoc refl))
