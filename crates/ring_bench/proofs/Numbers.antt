-- SPDX-License-Identifier: ISC
-- Lemmas on numbers in decimal.
use Rattle.std.proofs.Common.{◌≡◌, ℕ, ◌+◌, ◌-◌, ◌*◌, ◌<◌, ◌⊎◌, inl, inr, nat_eq, true, false, cond}
use Rattle.std.proofs.Common.{None, List, [], ◌∷◌, length, get_or, drop, refl, sym, ap, ◌∙◌, arith}
use Rattle.std.proofs.lemmas.List.{drop_more}
use Rattle.std.proofs.lemmas.Bool.Decides.{nat_tests}
use Rattle.std.specs.Char.{is_ascii_digit}
use Rattle.ring_bench.specs.Field.{digits_value, decimal_of, up_to}

-- further digits make it no smaller
too_large : (most n : ℕ) (bs : List ℕ) → most < n → up_to most (digits_value n bs) ≡ None
too_large most n [] h = beyond most n h
  where
    beyond : (most n : ℕ) → most < n → up_to most (digits_value n []) ≡ None
    beyond most n h = grind (arith, nat_tests)
too_large most n (b ∷ bs) h =
    let behind = digits_value (n * 10 + (b - 48)) bs in
    elim (is_ascii_digit b) as (λ v. up_to most (cond v behind None) ≡ None) [
      | true ↦ too_large most (n * 10 + (b - 48)) bs (omega arith)
      | false ↦ refl
    ]

number_cases : (field : List ℕ)
    → (decimal_of field ≡ None) ⊎ (decimal_of field ≡ digits_value 0 field)
number_cases [] = inl refl
number_cases (b ∷ []) = inr refl
number_cases (b ∷ c ∷ bs) =
    let whole = digits_value 0 (b ∷ c ∷ bs) in
    elim (nat_eq b 48) as (λ v. (cond v None whole ≡ None) ⊎ (cond v None whole ≡ whole)) [
      | true ↦ inl refl
      | false ↦ inr refl
    ]

-- the digit at i makes the number too large
pub too_large_at : (most value i : ℕ) (field : List ℕ) → i < length field
    → is_ascii_digit (get_or field i 0) ≡ true → most < value * 10 + (get_or field i 0 - 48)
    → digits_value value (drop i field) ≡ digits_value 0 field
    → up_to most (decimal_of field) ≡ None
too_large_at most value i field below digit large same =
    elim (number_cases field) [
      | inl none ↦ ap (up_to most) none
      | inr whole ↦
          ap (up_to most) (whole ∙ sym same ∙ next)
          ∙ too_large most (value * 10 + (get_or field i 0 - 48)) (drop (i + 1) field) large
    ]
  where
    next : digits_value value (drop i field)
        ≡ digits_value (value * 10 + (get_or field i 0 - 48)) (drop (i + 1) field)
    next = rw (drop_more field i 0 below, digit) refl
