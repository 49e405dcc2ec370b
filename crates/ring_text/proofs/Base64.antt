-- SPDX-License-Identifier: ISC
-- Base64: how long it is, the bytes that do not stand in it, and that a text is of one list of
-- bytes.
use Rattle.std.proofs.Common.{◌≡◌, ◌≤◌, ◌<◌, ◌==◌, ◌+◌, ◌*◌, ◌/◌, ◌%◌, ◌∷◌, ◌∙◌, ℕ, suc}
use Rattle.std.proofs.Common.{Bool, true, false, List, [], ap, arith, drop, length}
use Rattle.std.proofs.Common.{refl, subst, sym, take}
use Rattle.std.specs.Prelude.{Err, Ok, Result, not, slice_index}
use Rattle.std.proofs.lemmas.Bool.{cases_lt}
use Rattle.std.proofs.lemmas.List.{get_or-drop, length-append, length-replicate}
use Rattle.std.proofs.lemmas.List.{take-append-drop}
use Rattle.hex.specs.Hex.{IsBytes}
use Rattle.base64.proofs.EngineFacts.{decode_of-encode_of, front_bytes}
use Rattle.base64.proofs.RoundTrip.{length-encode_symbols}
use Rattle.base64.proofs.Tables.{all_below_at}
use Rattle.base64.specs.GeneralPurpose.{IsConsistent, decode_of, encode_of, encoded_size_of}
use Rattle.base64.specs.Rfc4648.{encode, encode_symbols, encoded_size, padding_len}
use Rattle.base64.specs.Tables.{all_below}
use Rattle.base64.specs.declared.engine.general_purpose.GeneralPurpose.{GeneralPurpose}
use Rattle.ring_text.proofs.Cuts.{IsWithout-lacks, lacks}
use Rattle.ring_text.specs.Cut.{IsWithout}

pub length-encode : (t m : List ℕ) (pad : ℕ) (padding : Bool)
    → length (encode t pad padding m) ≡ encoded_size (length m) padding
length-encode t m pad true =
    let padded = length-replicate (padding_len (length m)) pad in
    length-append (encode_symbols t m) _
    ∙ omega (arith, length-encode_symbols t m, padded)
length-encode t m pad false =
    length-append (encode_symbols t m) [] ∙ omega (arith, length-encode_symbols t m)

pub length-encode_of : (e : GeneralPurpose) (m : List ℕ)
    → length (encode_of e m) ≡ encoded_size_of e (length m)
length-encode_of e m = length-encode e.encode_table m e.padding.value e.config.encode_padding

-- what was written fits
pub fitting : {E : Type 0} {r : Result ℕ E} {error : E} {n room len : ℕ} → (n ≤ room → r ≡ Ok n)
    → (room < n → r ≡ Err error) → r ≡ Ok len → (len ≡ n) × (n ≤ room)
fitting {n} {room} fits too_small ok = grind (arith, cases_lt room n)

-- what was not written does not fit
pub no_fitting : {E : Type 0} {r : Result ℕ E} {error : E} {n room : ℕ} → (n ≤ room → r ≡ Ok n)
    → r ≡ Err error → room < n
no_fitting {n} {room} fits err = grind (arith, cases_lt room n)

-- no symbol of the table is the byte
abbrev pub is_apart : List ℕ → ℕ → ℕ → Bool
is_apart t end k = not (slice_index t k == end)

module _ (enc : List ℕ) (end : ℕ) (apart : all_below (is_apart enc end) 64 ≡ true) where
  symbol_apart : (k : ℕ) → k < 64 → is_apart enc end k ≡ true
  symbol_apart k below = all_below_at (is_apart enc end) 64 k apart below

  symbols_apart : (xs : List ℕ) → IsBytes xs → lacks end (encode_symbols enc xs) ≡ true
  unfolding encode_symbols
  symbols_apart [] h = refl
  symbols_apart (a ∷ []) h =
      let a_byte : a < 256 = h 0 in
      rw (symbol_apart (a / 4) (omega arith), symbol_apart (a % 4 * 16) (omega arith)) refl
  symbols_apart (a ∷ b ∷ []) h =
      let a_byte : a < 256 = h 0 in
      let b_byte : b < 256 = h 1 in
      rw (symbol_apart (a / 4) (omega arith), symbol_apart (a % 4 * 16 + b / 16) (omega arith))
      (rw (symbol_apart (b % 16 * 4) (omega arith)) refl)
  symbols_apart (a ∷ b ∷ c ∷ rest) h =
      let a_byte : a < 256 = h 0 in
      let b_byte : b < 256 = h 1 in
      let c_byte : c < 256 = h 2 in
      rw (symbol_apart (a / 4) (omega arith), symbol_apart (a % 4 * 16 + b / 16) (omega arith))
      (rw (symbol_apart (b % 16 * 4 + c / 64) (omega arith), symbol_apart (c % 64) (omega arith))
      (symbols_apart rest (λ k. h (suc (suc (suc k))))))

  pub IsWithout-symbols : (xs : List ℕ) → IsBytes xs → IsWithout end (encode_symbols enc xs)
  IsWithout-symbols xs h = IsWithout-lacks end (encode_symbols enc xs) (symbols_apart xs h)

-- a text is of one list of bytes
pub encode_of-injective : (e : GeneralPurpose) → IsConsistent e → (xs ys : List ℕ) → IsBytes xs
    → IsBytes ys → encode_of e xs ≡ encode_of e ys → xs ≡ ys
encode_of-injective e consistent xs ys hx hy same =
    let both = sym (decode_of-encode_of e xs consistent hx) ∙ ap (decode_of e) same
    ∙ decode_of-encode_of e ys consistent hy in
    cc both

-- the front of bytes is bytes, and so is the rest
pub bytes_front : (n : ℕ) (xs : List ℕ) → IsBytes xs → IsBytes (take n xs)
bytes_front n xs h =
    front_bytes (take n xs) (drop n xs) (subst IsBytes (sym (take-append-drop n xs)) h)

pub bytes_behind : (n : ℕ) (xs : List ℕ) → IsBytes xs → IsBytes (drop n xs)
bytes_behind n xs h i = subst (λ (b : ℕ). b < 256) (sym (get_or-drop n xs i 0)) (h (n + i))
