-- SPDX-License-Identifier: ISC
-- Hex in lower case: each text is of one list of bytes.
use Rattle.std.proofs.Common.{◌≡◌, ℕ, zero, suc, ◌+◌, ◌-◌, ◌*◌, ◌/◌, ◌%◌, ◌<◌, ◌&&◌, ◌==◌, Bool}
use Rattle.std.proofs.Common.{true, List, [], ◌∷◌, length, All, refl, sym, ap, subst, ◌∙◌, arith}
use Rattle.std.specs.Char.{is_ascii_uppercase}
use Rattle.std.specs.List.{list_all}
use Rattle.std.specs.Option.{unwrap_or}
use Rattle.std.specs.Prelude.{None, not, nat_lt, slice_index, Result, Ok, Err, MatchResult, is_ok}
use Rattle.std.proofs.lemmas.Bool.{agree_below_at, and_from, and_parts, eqb-true, ne_eqb}
use Rattle.std.proofs.lemmas.Bool.Decides.{nat_tests}
use Rattle.std.proofs.lemmas.List.Elements.{All-nil, All-cons, All-head, All-tail}
use Rattle.std.proofs.lemmas.List.Sums.{AllPass-from_list_all, list_all-from_AllPass}
use Rattle.hex.specs.Hex.{IsBytes, decode_of, decode_sized, encode_lower, encode_with}
use Rattle.hex.specs.Hex.{hex_digit_value, is_hex_digit, lower_digits}
use Rattle.hex.specs.declared.error.FromHexError.{FromHexError}
use Rattle.hex.proofs.HexLemmas.{IsDigits-lower_digits, IsOk-decode_sized, IsOk-written}
use Rattle.hex.proofs.HexLemmas.{decode_of-encode_lower, decode_of-same}
use Rattle.hex.proofs.HexLemmas.{decode_sized-encode_lower, length-encode_with}
use Rattle.ring_text.specs.Cut.{IsWithout}
use Rattle.ring_text.proofs.Cuts.{NotAt}

-- what holds of each digit holds of all in the hex of bytes
pub All-hex : (P : ℕ → Type 0) → ((k : ℕ) → k < 16 → P (slice_index lower_digits k))
    → (xs : List ℕ) → IsBytes xs → All P (encode_lower xs)
unfolding encode_with
All-hex P each [] h = All-nil P
All-hex P each (b ∷ rest) h =
    let byte : b < 256 = h 0 in
    let low = slice_index lower_digits (b % 16) in
    All-cons P (slice_index lower_digits (b / 16)) (low ∷ encode_lower rest)
    (each (b / 16) (omega arith))
    (All-cons P low (encode_lower rest) (each (b % 16) (omega arith))
    (All-hex P each rest (λ k. h (suc k))))

digit_apart : (end : ℕ) → hex_digit_value end ≡ None → (k : ℕ) → k < 16
    → NotAt end (slice_index lower_digits k)
digit_apart end none k below =
    ne_eqb (slice_index lower_digits k) end
    (λ same. cc (sym (IsDigits-lower_digits k below) ∙ ap hex_digit_value same ∙ none))

-- a byte that is no digit is not in the hex of bytes
pub IsWithout-hex : (end : ℕ) → hex_digit_value end ≡ None → (xs : List ℕ) → IsBytes xs
    → IsWithout end (encode_lower xs)
IsWithout-hex end none = All-hex (NotAt end) (digit_apart end none)

pub encode_lower-injective : (xs ys : List ℕ) → IsBytes xs → IsBytes ys
    → encode_lower xs ≡ encode_lower ys → xs ≡ ys
encode_lower-injective xs ys hx hy e =
    decode_of-same (encode_lower ys) xs ys
    (ap decode_of (sym e) ∙ decode_of-encode_lower xs hx) (decode_of-encode_lower ys hy)

-- ---- digits without a letter in upper case

-- a digit's value, or 16
abbrev value_of : ℕ → ℕ
value_of c = unwrap_or (hex_digit_value c) 16

abbrev pub is_not_upper : ℕ → Bool
is_not_upper c = not (is_ascii_uppercase c)

abbrev is_lower : ℕ → Bool
is_lower c = is_hex_digit c && is_not_upper c

-- the value of a digit in lower case has that digit
abbrev reads_back : ℕ → Bool
reads_back c = nat_lt (value_of c) 16 && (slice_index lower_digits (value_of c) == c)

abbrev IsLower : ℕ → Type 0
IsLower c = is_lower c ≡ true

lower_digit : (c : ℕ) → IsLower c
    → (value_of c < 16) × (slice_index lower_digits (value_of c) ≡ c)
lower_digit c is =
    let small : c < 128 = grind (arith, is) in
    let back = sym (agree_below_at is_lower reads_back 128 c refl small) ∙ is in
    let parts = and_parts (nat_lt (value_of c) 16) _ back in
    (grind (arith, nat_tests, parts.0), eqb-true (slice_index lower_digits (value_of c)) c parts.1)

-- the text is the hex of bytes
record HexOf (s : List ℕ) : Type 0 where
  bytes : List ℕ
  are : IsBytes bytes
  text : s ≡ encode_lower bytes

IsBytes-cons : (b : ℕ) (rest : List ℕ) → b < 256 → IsBytes rest → IsBytes (b ∷ rest)
IsBytes-cons b rest h hs zero = h
IsBytes-cons b rest h hs (suc i) = hs i

-- pairs of digits with none in upper case are the hex of bytes
hex_of : (s : List ℕ) (n : ℕ) → length s ≡ 2 * n → All IsLower s → HexOf s
unfolding encode_with
hex_of [] n len low = record { bytes = []; are = λ i. omega arith; text = refl }
hex_of (h ∷ []) n len low = absurd (omega arith)
hex_of (h ∷ l ∷ rest) n len low =
    let lows = All-tail IsLower h (l ∷ rest) low in
    let high = lower_digit h (All-head IsLower h (l ∷ rest) low) in
    let other = lower_digit l (All-head IsLower l rest lows) in
    let more = hex_of rest (n - 1) (omega arith) (All-tail IsLower l rest lows) in
    let byte = value_of h * 16 + value_of l in
    let first : byte / 16 ≡ value_of h = omega (arith, high.0, other.0) in
    let second : byte % 16 ≡ value_of l = omega (arith, high.0, other.0) in
    record {
      bytes = byte ∷ more.bytes;
      are = IsBytes-cons byte more.bytes (omega (arith, high.0, other.0)) more.are;
      text = rw (first, second, high.1, other.1, ← more.text) refl;
    }

-- what decoding to room for n bytes answers, and what it leaves there
module _ (s : List ℕ) (n : ℕ) (answer : Result (Unit {0}) FromHexError) (out : List ℕ)
    (decoded : MatchResult (decode_sized s n) (λ bytes. (answer ≡ Ok tt) × (out ≡ bytes))
    (λ e. answer ≡ Err e)) where
  -- digits that were written give their bytes
  pub hex_written : (bytes : List ℕ) → IsBytes bytes → length bytes ≡ n → s ≡ encode_lower bytes
      → (answer ≡ Ok tt) × (out ≡ bytes)
  hex_written bytes h len e =
      let is : decode_sized s n ≡ Ok bytes =
      ap (λ digits. decode_sized digits n) e ∙ decode_sized-encode_lower bytes n len h in
      rw is at decoded

  -- digits without an upper-case letter were written
  pub hex_read : list_all is_not_upper s ≡ true → is_ok answer ≡ true
      → (s ≡ encode_lower out) × IsBytes out
  hex_read low ok =
      let digits = (IsOk-decode_sized s n).0
      ((IsOk-written (decode_sized s n) answer out decoded).0 ok) in
      let lows = AllPass-from_list_all is_not_upper s low in
      let of = hex_of s n digits.0
      (λ k d below. and_from _ _ (digits.1 k d below) (lows k d below)) in
      let twice = length-encode_with lower_digits of.bytes in
      let half : length of.bytes ≡ n = omega (arith, twice, ap length of.text, digits.0) in
      let same = (hex_written of.bytes of.are half of.text).1 in
      (of.text ∙ ap encode_lower (sym same), subst IsBytes (sym same) of.are)

-- no letter in the hex of bytes is in upper case
pub hex_not_upper : (bytes : List ℕ) → IsBytes bytes
    → list_all is_not_upper (encode_lower bytes) ≡ true
hex_not_upper bytes h =
    list_all-from_AllPass is_not_upper (encode_lower bytes)
    (All-hex (λ c. is_not_upper c ≡ true)
    (λ k. agree_below_at (λ k. is_not_upper (slice_index lower_digits k)) (λ k. true) 16 k refl)
    bytes h)
