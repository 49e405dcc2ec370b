-- SPDX-License-Identifier: ISC
-- The text of a new value under a salt of 16 random bytes has at most 1,024 bytes.
use Rattle.std.proofs.Common.{◌≡◌, ◌≤◌, ◌+◌, ◌*◌, ◌/◌, ◌++◌, ◌∷◌, ℕ, zero, suc, Bool, true, false}
use Rattle.std.proofs.Common.{List, [], ap, arith, drop, length, refl, take}
use Rattle.std.specs.Prelude.{◌&&◌, nat_le, Err}
use Rattle.std.specs.Fmt.{decimal}
use Rattle.std.specs.Int.{from_be_bytes, w128}
use Rattle.std.specs.Int.NonZero.{non_zero_u32_get}
use Rattle.std.specs.declared.num.NonZeroU32.{NonZeroU32}
use Rattle.std.proofs.lemmas.Bool.Decides.{nat_tests}
use Rattle.std.proofs.lemmas.Fmt.{length-decimal-le}
use Rattle.std.proofs.lemmas.List.{length-append, length-drop, length-take}
use Rattle.base64.specs.Engines.{standard, standard_no_pad}
use Rattle.base64.proofs.RoundTrip.{length-encode_symbols}
use Rattle.base64.specs.Rfc4648.{encode_symbols}
use Rattle.ring_text.proofs.Base64.{length-encode_of}
use Rattle.ring_password_hash.specs.Salt.{letters, salt_from}
use Rattle.ring_password_hash.specs.Scheme.{Row, count_mark, keeps_keys, kept_encoding_of}
use Rattle.ring_password_hash.specs.Scheme.{kept_len_of, names_len, prefix_of, salt_encoding_of}
use Rattle.ring_password_hash.specs.Stored.{can_keep, derived_of, is_past, is_salt, is_text}
use Rattle.ring_password_hash.specs.Stored.{new_parts, new_status, parameters_where, parts_text}
use Rattle.ring_password_hash.specs.Stored.{text_of}
use Rattle.ring_password_hash.specs.Text.{IsCount, adapted_symbols, kept_by, kept_text}
use Rattle.ring_password_hash.specs.Text.{parameters_then, written}
use Rattle.ring_password_hash.specs.declared.error.HashError.{HashError}
use Rattle.ring_password_hash.specs.declared.scheme.Encoding.{Encoding}
use Rattle.ring_password_hash.specs.declared.scheme.Encoding.TheVariants.{Plain, Hex, Base64}
use Rattle.ring_password_hash.specs.declared.scheme.Encoding.TheVariants.{Base64NoPad, Adapted}
use Rattle.ring_password_hash.specs.declared.scheme.Scheme.{Scheme}
use Rattle.ring_password_hash.proofs.Made.{length-derived_of}
use Rattle.ring_password_hash.proofs.Pieces.{two_digits_each}
use Rattle.ring_password_hash.proofs.Schemes.{each_row}
use Rattle.ring_passwords.specs.Encode.{salt_of}

length-letters : (count n : ℕ) → length (letters count n) ≡ count
unfolding letters
length-letters zero n = refl
length-letters (suc count) n = ap suc (length-letters count (n / 62))

-- a field has at most two symbols a byte, and two more
twice : (x : Encoding) (a : List ℕ) → length (written x a) ≤ 2 * length a + 2
twice Plain a = omega arith
twice Hex a = omega (arith, two_digits_each a)
twice Base64 a = omega (arith, length-encode_of standard a)
twice Base64NoPad a = omega (arith, length-encode_of standard_no_pad a)
twice Adapted a =
    let symbols = length-append (encode_symbols adapted_symbols a) [] in
    omega (arith, symbols, length-encode_symbols adapted_symbols a)

twice_kept : (keys : Bool) (x : Encoding) (a : List ℕ)
    → length (kept_by keys x a) ≤ 2 * length a + 5
twice_kept false x a = omega (arith, twice x a)
twice_kept true x a =
    let first = twice Base64 (take 32 a) in
    let last = twice Base64 (drop 32 a) in
    let one = length-append (written Base64 (take 32 a)) (58 ∷ written Base64 (drop 32 a)) in
    omega (arith, first, last, one, length-take 32 a, length-drop 32 a)

salt_few : (text : Bool) (random : List ℕ) → length random ≡ 16
    → length (salt_from text random) ≤ 22
salt_few true random len = omega (arith, length-letters 22 (from_be_bytes w128 random))
salt_few false random len = omega (arith, len)

abbrev is_few : Row → Bool
is_few r = nat_le (length r.prefix) 16 && nat_le r.kept_len 64

few : (k : Scheme) → (length (prefix_of k) ≤ 16) × (kept_len_of k ≤ 64)
few k =
    let is = each_row is_few refl k in (grind (arith, nat_tests, is), grind (arith, nat_tests, is))

mark_few : (named : Bool) → length (count_mark named) ≤ 2
mark_few true = omega arith
mark_few false = omega arith

count_few : (c : NonZeroU32) → IsCount c → length (decimal (non_zero_u32_get c)) ≤ 10
count_few c is =
    length-decimal-le 10 (non_zero_u32_get c) (omega arith) (omega (arith, is)) (omega (arith, is))

-- the parameters are at most 30 bytes
parameters_few : (k : Scheme) (named : Bool) (c : NonZeroU32) (n : ℕ) (rest : List ℕ) → IsCount c
    → n ≤ 64
    → length (parameters_then k (parameters_where named) c n rest) ≤ length rest + 30
unfolding parameters_then
parameters_few k false c n rest is few =
    simp length-append (omega (arith, mark_few (names_len k), count_few c is))
parameters_few k true c n rest is few =
    let short = length-decimal-le 2 n (omega arith) (omega (arith, few)) (omega (arith, few)) in
    simp length-append (omega (arith, short, count_few c is))

-- a new text under such a salt
text_few : (k : Scheme) (p random : List ℕ) (c : NonZeroU32) → length random ≡ 16 → IsCount c
    → length (text_of (new_parts k p (salt_of k random) c)) ≤ 300
unfolding parts_text
text_few k p random c len is =
    let s = salt_of k random in
    let kept = derived_of k p s (non_zero_u32_get c) (kept_len_of k) in
    let kept_len = length-derived_of k p s (non_zero_u32_get c) in
    let (prefix, most) = few k in
    let behind = written (salt_encoding_of k) s ++ 36 ∷ kept_text k kept in
    let parameters = parameters_few k (names_len k) c (length kept) behind is
    (omega (arith, kept_len, most)) in
    let salt = salt_few (is_text (salt_encoding_of k)) random len in
    let field = twice (salt_encoding_of k) s in
    let last = twice_kept (keeps_keys k) (kept_encoding_of k) kept in
    omega (arith, parameters, length-append {A = ℕ}, prefix, salt, field, last, kept_len, most)

-- so a new value is refused for the length of its password alone
pub too_long : (k : Scheme) (p random : List ℕ) (c : NonZeroU32) {error : HashError}
    → length random ≡ 16 → IsCount c → is_salt k (salt_of k random) ≡ true
    → new_status 1024 k p (salt_of k random) c ≡ Err error
    → can_keep k (length p) (length (salt_of k random)) (kept_len_of k) ≡ false
too_long k p random c len is salt told =
    let few = text_few k p random c len is in
    let past : is_past 1024 (text_of (new_parts k p (salt_of k random) c)) ≡ false =
    grind (arith, nat_tests, few) in
    grind (arith, rw (past, salt) at told)
