-- SPDX-License-Identifier: ISC
-- Parts of written lines, as they are read.
use Rattle.std.proofs.Common.{◌≡◌, ℕ, ◌<◌, ◌≤◌, eqb, true, false, ◌||◌}
use Rattle.std.proofs.Common.{Bool, ◌++◌, if◌then◌else◌}
use Rattle.std.proofs.Common.{List, [], ◌∷◌, length, get_or, Some}
use Rattle.std.proofs.Common.{refl, sym, ap, ◌∙◌, arith, inl, inr, length-append}
use Rattle.std.proofs.lemmas.Bool.{agree_below, agree_below_at, and_parts, cases_Bool}
use Rattle.std.proofs.lemmas.Bool.{false_from_ne_true, or_parts, true≢false}
use Rattle.std.proofs.lemmas.List.Sums.{list_all-from_AllPass}
use Rattle.std.specs.Char.{is_ascii_hexdigit}
use Rattle.std.specs.List.{list_all}
use Rattle.hex.specs.Hex.{IsBytes, encode_lower, lower_digits}
use Rattle.hex.proofs.HexLemmas.{decode_sized-encode_lower}
use Rattle.ring_text.proofs.LowerHex.{All-hex}
use Rattle.ring.specs.Prelude.{output_len}
use Rattle.ring.specs.declared.digest.algorithm.Algorithm.{Algorithm}
use Rattle.ring_sums.specs.Entry.{IsDigestOf, behind_backslash, behind_white, digest_in, is_white}
use Rattle.ring_sums.specs.Entry.{listed_with, name_in}
use Rattle.ring_sums.specs.Names.{escaped, escaped_byte, is_special, needs_escape}
use Rattle.ring_sums.proofs.Escapes.{escaped-cases, unescaped-escaped}
use Rattle.ring_sums.proofs.Fronts.{white-no_digit}

-- ---- digits

-- digits pass what the sixteen pass
pub digits-pass : (p : ℕ → Bool) (bytes : List ℕ)
    → agree_below (λ k. p (get_or lower_digits k 0)) (λ k. true) 16 ≡ true → IsBytes bytes
    → list_all p (encode_lower bytes) ≡ true
digits-pass p bytes sixteen h =
    list_all-from_AllPass p (encode_lower bytes) (All-hex (λ b. p b ≡ true)
    (λ n. agree_below_at (λ k. p (get_or lower_digits k 0)) (λ k. true) 16 n sixteen) bytes h)

-- no white space stands in front of digits
pub digits-start : (digits : List ℕ) → list_all is_ascii_hexdigit digits ≡ true
    → is_white (get_or digits 0 0) ≡ false
digits-start [] h = refl
digits-start (digit ∷ digits) h =
    let parts = and_parts (is_ascii_hexdigit digit) (list_all is_ascii_hexdigit digits) h in
    false_from_ne_true _ (λ is. true≢false (sym parts.0 ∙ white-no_digit digit is))

-- ---- names

-- a name with no special byte stands as it is
escaped-plain : (name : List ℕ) → needs_escape name ≡ false → escaped name ≡ name
escaped-plain [] h = refl
escaped-plain (byte ∷ name) h =
    let parts = or_parts (is_special byte) (needs_escape name) h in
    let first = or_parts (eqb byte 92 || eqb byte 10) (eqb byte 13) parts.0 in
    let two = or_parts (eqb byte 92) (eqb byte 10) first.0 in
    rw (two.0, two.1, first.1, escaped-plain name parts.1)

name_in-escaped : (name : List ℕ) → name_in (needs_escape name) (escaped name) ≡ Some name
unfolding name_in
name_in-escaped name = elim (cases_Bool (needs_escape name)) [
  | inl is ↦ rw is (unescaped-escaped name)
  | inr other ↦ rw other (ap Some (escaped-plain name other))
]

one_byte : (byte : ℕ) → 1 ≤ length (escaped_byte byte)
one_byte byte =
    escaped-cases byte (λ b escape. 1 ≤ length escape) (omega arith) (omega arith) (omega arith)
    (λ _ _ _. omega arith)

pub length-escaped : (name : List ℕ) → 0 < length name → 0 < length (escaped name)
length-escaped [] h = absurd (omega arith)
length-escaped (byte ∷ name) h =
    let one = one_byte byte in simp length-append (omega arith)

-- ---- what is listed

pub listed_with-line : (a : Algorithm) (digest name : List ℕ) → IsDigestOf a digest
    → listed_with a (encode_lower digest) (escaped name) (needs_escape name)
    ≡ Some (record { algorithm = a; digest = digest; name = name })
unfolding listed_with digest_in
listed_with-line a digest name is =
    rw (name_in-escaped name, decode_sized-encode_lower digest (output_len a) is.len is.bytes)

-- ---- starts of lines

abbrev pub slash : (is_escaped : Bool) → List ℕ
slash is_escaped = if is_escaped then 92 ∷ [] else []

-- a text that begins with neither white space nor a backslash stands behind one or none
pub start-written : (is_escaped : Bool) (text : List ℕ) → is_white (get_or text 0 0) ≡ false
    → eqb (get_or text 0 0) 92 ≡ false
    → behind_backslash (behind_white (slash is_escaped ++ text)) ≡ (is_escaped, text)
start-written true text no_white no_slash = refl
start-written false [] no_white no_slash = refl
start-written false (byte ∷ rest) no_white no_slash = rw (no_white, no_slash) refl
