-- SPDX-License-Identifier: ISC
-- Ch and Maj in fewer operations, or as sums of two terms, digit by digit.
use Rattle.std.proofs.Common.{◌≡◌, ℕ, ◌+◌, ◌%◌, ◌^◌, ◌<◌, bit_and, ap, arith, ◌∙◌}
use Rattle.std.proofs.lemmas.Nat.{and-not, and_assoc, and_comm, xor_comm}
use Rattle.std.proofs.lemmas.Nat.Bits.{bit_at-lt, bit_at-zero, bit_at_and, bit_at_xor}
use Rattle.std.proofs.lemmas.Nat.Bits.{same_from_bits}
use Rattle.std.proofs.Math.Nat.{mod-add-mod}
use Rattle.std.specs.Int.Bits.{and_self, xor_add_and}
use Rattle.ring_core.specs.Prelude.{◌⊕◌, add_words, choose, complement, majority}
use lib.Bits.{xor_disjoint}

-- two words without a common bit, added one by one
plus-apart : (w s a b : ℕ) → bit_and a b ≡ 0
    → add_words w (add_words w s a) b ≡ add_words w s (a ⊕ b)
plus-apart w s a b apart =
    let whole = xor_disjoint a b apart in
    mod-add-mod (s + a) (2 ^ w) b ∙ ap (λ (n : ℕ). n % 2 ^ w) (omega (arith, whole))

-- what x leaves of z
left_by : (w x z : ℕ) → x < 2 ^ w → z < 2 ^ w → z ⊕ bit_and x z ≡ bit_and (complement w x) z
left_by w x z fx fz =
    let within : bit_and z (bit_and x z) ≡ bit_and x z =
    rw (and_comm x z, ← and_assoc x z z) (ap (λ (n : ℕ). bit_and n x) (and_self z)) in
    omega (arith, xor_add_and z (bit_and x z), within, and-not w x z fx fz)

-- Ch in three operations
pub choose-short : (w x y z : ℕ) → x < 2 ^ w → z < 2 ^ w → z ⊕ bit_and x (y ⊕ z) ≡ choose w x y z
choose-short w x y z fx fz =
    rw (← left_by w x z fx fz) (same_from_bits _ _ (λ i.
    simp (bit_at_and, bit_at_xor) (omega (arith, bit_at-lt x i, bit_at-lt y i, bit_at-lt z i))))

-- Ch added term by term
pub choose-plus : (w s x y z : ℕ) → x < 2 ^ w → z < 2 ^ w
    → add_words w (add_words w s (z ⊕ bit_and x z)) (bit_and x y) ≡ add_words w s (choose w x y z)
choose-plus w s x y z fx fz =
    let apart : bit_and (z ⊕ bit_and x z) (bit_and x y) ≡ 0 = same_from_bits _ _ (λ i.
    simp (bit_at_and, bit_at_xor, bit_at-zero)
    (omega (arith, bit_at-lt x i, bit_at-lt y i, bit_at-lt z i))) in
    let whole : (z ⊕ bit_and x z) ⊕ bit_and x y ≡ choose w x y z =
    rw (left_by w x z fx fz) (xor_comm (bit_and (complement w x) z) (bit_and x y)) in
    plus-apart w s _ _ apart ∙ ap (add_words w s) whole

-- Maj added term by term
pub majority-plus : (w s x y z : ℕ)
    → add_words w (add_words w s (bit_and z (x ⊕ y))) (bit_and x y)
    ≡ add_words w s (majority x y z)
majority-plus w s x y z =
    let apart : bit_and (bit_and z (x ⊕ y)) (bit_and x y) ≡ 0 = same_from_bits _ _ (λ i.
    simp (bit_at_and, bit_at_xor, bit_at-zero)
    (omega (arith, bit_at-lt x i, bit_at-lt y i, bit_at-lt z i))) in
    let whole : bit_and z (x ⊕ y) ⊕ bit_and x y ≡ majority x y z = same_from_bits _ _ (λ i.
    simp (bit_at_and, bit_at_xor)
    (omega (arith, bit_at-lt x i, bit_at-lt y i, bit_at-lt z i))) in
    plus-apart w s _ _ apart ∙ ap (add_words w s) whole

-- Maj in four operations
pub majority-short : (x y z : ℕ) → y ⊕ bit_and (x ⊕ y) (y ⊕ z) ≡ majority x y z
majority-short x y z = same_from_bits _ _ (λ i.
    simp (bit_at_and, bit_at_xor) (omega (arith, bit_at-lt x i, bit_at-lt y i, bit_at-lt z i)))

pub ruleset short_forms = (majority-short, majority-plus)
