-- SPDX-License-Identifier: ISC
-- The fields of a text, and what stands before and behind its salt.
use Rattle.std.specs.Prelude.{◌≡◌, ◌≤◌, ◌<◌, ◌+◌, ◌∷◌, ◌++◌, ◌⊎◌, ℕ, Bool, true, false, List, None}
use Rattle.std.specs.Prelude.{Option, Some, codes, drop, length, take}
use Rattle.std.specs.declared.num.NonZeroU32.{NonZeroU32}
use Rattle.hex.specs.Hex.{encode_lower}
use Rattle.base64.specs.Engines.{standard, standard_no_pad}
use Rattle.base64.specs.GeneralPurpose.{encode_of}
use Rattle.base64.specs.Rfc4648.{encode}
pub use Rattle.ring_text.specs.Field.{IsCount, count_then, number_then}
use Rattle.ring_password_hash.specs.Scheme.{count_end_of, count_mark_of, keeps_keys}
use Rattle.ring_password_hash.specs.Scheme.{kept_encoding_of, kept_len_of, names_len, prefix_of}
use Rattle.ring_password_hash.specs.declared.scheme.Encoding.{Encoding}
use Rattle.ring_password_hash.specs.declared.scheme.Encoding.TheVariants.{Plain, Hex, Base64}
use Rattle.ring_password_hash.specs.declared.scheme.Encoding.TheVariants.{Base64NoPad, Adapted}
use Rattle.ring_password_hash.specs.declared.scheme.Scheme.{Scheme}
use Rattle.ring_password_hash.specs.declared.text.Parameters.{Parameters}
use Rattle.ring_password_hash.specs.declared.text.Parameters.TheVariants.{Count, CountThenLen}
use Rattle.ring_password_hash.specs.declared.text.Parameters.TheVariants.{LenThenCount}
use Rattle.ring_password_hash.specs.declared.text.TheConstants.{MAX_TEXT_LEN}

-- the symbols of adapted base64: a full stop for the plus sign
abbrev pub adapted_symbols : List ℕ
adapted_symbols = codes "ABCDEFGHIJKLMNOPQRSTUVWXYZabcdefghijklmnopqrstuvwxyz0123456789./"

-- bytes as a field writes them
abbrev pub written : Encoding → List ℕ → List ℕ
written Plain bytes = bytes
written Hex bytes = encode_lower bytes
written Base64 bytes = encode_of standard bytes
written Base64NoPad bytes = encode_of standard_no_pad bytes
written Adapted bytes = encode adapted_symbols 61 false bytes

-- a field, the byte that ends it, and the rest
abbrev pub field_then : Encoding → (bytes : List ℕ) (end : ℕ) (rest : List ℕ) → List ℕ
field_then encoding bytes end rest = written encoding bytes ++ end ∷ rest

-- what is kept, behind the salt: one field, or StoredKey and ServerKey with a colon between them
abbrev pub kept_by : (keys : Bool) → Encoding → List ℕ → List ℕ
kept_by false encoding kept = written encoding kept
kept_by true encoding kept = field_then Base64 (take 32 kept) 58 (written Base64 (drop 32 kept))

abbrev pub kept_text : Scheme → List ℕ → List ℕ
kept_text k kept = kept_by (keeps_keys k) (kept_encoding_of k) kept

-- the iteration count c and, where the parameters name it, the length n of what is kept; then the
-- rest
unfoldable pub parameters_then : Scheme → Parameters → (c : NonZeroU32) (n : ℕ) (rest : List ℕ)
    → List ℕ
parameters_then k Count c n rest = count_mark_of k ++ count_then c (count_end_of k) rest
parameters_then k CountThenLen c n rest =
    codes "i=" ++ count_then c 44 (codes "l=" ++ number_then n 36 rest)
parameters_then k LenThenCount c n rest =
    codes "l=" ++ number_then n 44 (codes "i=" ++ count_then c 36 rest)

-- what stands before the salt, and the rest
abbrev pub head_then : Scheme → Parameters → (c : NonZeroU32) (n : ℕ) (rest : List ℕ) → List ℕ
head_then k p c n rest = prefix_of k ++ parameters_then k p c n rest

-- the text can name its length, which is one of 10 to 64 bytes
pub record IsNamed (k : Scheme) (n : ℕ) : Type 0 where
  pub named : names_len k ≡ true
  pub least : 10 ≤ n
  pub most : n ≤ 64

-- the parameters are those of a text of the scheme that keeps n bytes
abbrev pub IsLen : Scheme → Parameters → ℕ → Type 0
IsLen k Count n = n ≡ kept_len_of k
IsLen k CountThenLen n = IsNamed k n
IsLen k LenThenCount n = IsNamed k n

-- a byte that no field in base64 has
abbrev pub IsEnd : ℕ → Type 0
IsEnd end = (end ≡ 36) ⊎ (end ≡ 58)

-- ---- what is written to an array

-- the piece stands from the place `at` to the place `end`, behind what stood before it
pub record IsPutTo (at end : ℕ) (piece old new : List ℕ) : Type 0 where
  pub place : end ≡ at + length piece
  pub within : end ≤ MAX_TEXT_LEN
  pub bytes : take end new ≡ take at old ++ piece

-- the same for the place behind it, or for none: there is no room
abbrev pub IsPut : (at : ℕ) (piece old new : List ℕ) → Option ℕ → Type 0
IsPut at piece old new (Some end) = IsPutTo at end piece old new
IsPut at piece old new None = MAX_TEXT_LEN < at + length piece
