-- SPDX-License-Identifier: ISC
-- Lemmas on pairs of hex digits, and on lists as they are filled.
use Rattle.std.proofs.Common.{◌≡◌, ◌≢◌, ℕ, suc, ◌+◌, ◌*◌, ◌<◌, List, [], ◌∷◌, length, slice_index}
use Rattle.std.proofs.Common.{Option, Some, None, Ok, unwrap_or, inl, inr, refl, ap, arith}
use Rattle.std.proofs.lemmas.Bool.{cases_lt}
use Rattle.std.proofs.lemmas.List.{get_or-set_other, get_or-set_same}
use Rattle.std.proofs.Math.ListN.{get_or, set}
use Rattle.hex.specs.Hex.{decode_pairs, hex_digit_value}
use Rattle.ring_bench.specs.Digits.{value_in_table}

-- something holds of each of the first n numbers of a list and its index
abbrev pub Firsts : (ℕ → ℕ → Type 0) → List ℕ → ℕ → Type 0
Firsts Is xs n = (k : ℕ) → k < n → Is k (get_or xs k 0)

-- it holds of one number more, once that is set
pub Firsts-set : (Is : ℕ → ℕ → Type 0) (xs : List ℕ) (n x : ℕ) → n < length xs → Firsts Is xs n
    → Is n x → Firsts Is (set xs n x) (n + 1)
Firsts-set Is xs n x room before now k below = elim (cases_lt k n) [
  | inl lt ↦
      let other : k ≢ n = omega arith in
      rw (get_or-set_other xs n k x 0 other) (before k lt)
  | inr ge ↦
      let last : k ≡ n = omega arith in
      rw (last, get_or-set_same xs n x 0 room) now
]

-- pair k of the digits makes the byte
pub record IsPair (digits : List ℕ) (k byte : ℕ) : Type 0 where
  pub high : value_in_table (slice_index digits (2 * k)) < 16
  pub low : value_in_table (slice_index digits (2 * k + 1)) < 16
  pub made : byte ≡ value_in_table (slice_index digits (2 * k)) * 16
      + value_in_table (slice_index digits (2 * k + 1))

-- behind the first pair, the index of a pair is less by one
pair-behind : (high low : ℕ) (rest : List ℕ) (k byte : ℕ)
    → IsPair (high ∷ low ∷ rest) (suc k) byte → IsPair rest k byte
pair-behind high low rest k byte is =
    let value = λ (i : ℕ). value_in_table (slice_index (high ∷ low ∷ rest) i) in
    let even : 2 * suc k ≡ suc (suc (2 * k)) = omega arith in
    let odd : 2 * suc k + 1 ≡ suc (suc (2 * k + 1)) = omega arith in
    let first = ap value even in
    let second = ap value odd in
    record {
      high = omega (arith, is.high, first);
      low = omega (arith, is.low, second);
      made = omega (arith, is.made, first, second);
    }

-- a byte whose value in the table is below 16 is a digit
value-of_digit : (value : Option ℕ) → unwrap_or value 255 < 16 → value ≡ Some (unwrap_or value 255)
value-of_digit (Some v) below = refl
value-of_digit None below = absurd (omega arith)

-- digits decode to the bytes that their pairs make, whatever the index of the first digit
pub decode_pairs-made : (index : ℕ) (digits bytes : List ℕ) → length digits ≡ 2 * length bytes
    → Firsts (IsPair digits) bytes (length bytes) → decode_pairs index digits ≡ Ok bytes
unfolding decode_pairs
decode_pairs-made index [] [] two each = refl
decode_pairs-made index (high ∷ low ∷ rest) (byte ∷ bytes) two each =
    let first = each 0 (omega arith) in
    let behind : Firsts (IsPair rest) bytes (length bytes) = λ k below.
    pair-behind high low rest k (get_or bytes k 0) (each (suc k) (omega (arith, below))) in
    rw (value-of_digit (hex_digit_value high) first.high)
    (rw (value-of_digit (hex_digit_value low) first.low)
    (rw (decode_pairs-made (index + 2) rest bytes (omega (arith, two)) behind, first.made) refl))
decode_pairs-made index [] (byte ∷ bytes) two each = absurd (omega (arith, two))
decode_pairs-made index (digit ∷ []) bytes two each = absurd (omega (arith, two))
decode_pairs-made index (high ∷ low ∷ rest) [] two each = absurd (omega (arith, two))
