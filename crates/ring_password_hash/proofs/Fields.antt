-- SPDX-License-Identifier: ISC
-- What a field's text says of its bytes.
use Rattle.std.proofs.Common.{◌≡◌, ◌+◌, ◌∷◌, ◌++◌, ◌∙◌, ℕ, zero, suc, false, List, [], ap, refl}
use Rattle.std.proofs.Common.{replicate, sym}
use Rattle.hex.specs.Hex.{IsBytes}
use Rattle.base64.proofs.RoundTrip.{decode-encode}
use Rattle.base64.specs.Decode.{decoded_bytes}
use Rattle.base64.specs.Engines.{standard, standard_no_pad}
use Rattle.base64.specs.declared.engine.DecodePaddingMode.TheVariants.{RequireNone}
use Rattle.ring_text.proofs.Base64.{encode_of-injective}
use Rattle.ring_text.proofs.Cuts.{cut_same}
use Rattle.ring_text.proofs.LowerHex.{encode_lower-injective}
use Rattle.ring_text.specs.Cut.{IsWithout}
use Rattle.ring_password_hash.specs.Text.{adapted_symbols, field_then, written}
use Rattle.ring_password_hash.specs.declared.scheme.Encoding.{Encoding}
use Rattle.ring_password_hash.specs.declared.scheme.Encoding.TheVariants.{Plain, Hex, Base64}
use Rattle.ring_password_hash.specs.declared.scheme.Encoding.TheVariants.{Base64NoPad, Adapted}

-- numbers in a row
numbers_from : (first count : ℕ) → List ℕ
numbers_from first zero = []
numbers_from first (suc count) = first ∷ numbers_from (first + 1) count

-- the value of each symbol of adapted base64: of the full stop and the slash, of the digits, and of
-- the letters
adapted_values : List ℕ
adapted_values =
    replicate 46 255 ++ numbers_from 62 2 ++ numbers_from 52 10 ++ replicate 7 255
    ++ numbers_from 0 26 ++ replicate 6 255 ++ numbers_from 26 26 ++ replicate 133 255

adapted-injective : (xs ys : List ℕ) → IsBytes xs → IsBytes ys
    → written Adapted xs ≡ written Adapted ys → xs ≡ ys
unfolding adapted_values numbers_from
adapted-injective xs ys hx hy same =
    let one = decode-encode adapted_symbols adapted_values xs 61 false RequireNone false refl hx
    refl in
    let two = decode-encode adapted_symbols adapted_values ys 61 false RequireNone false refl hy
    refl in
    sym one.1 ∙ ap (decoded_bytes adapted_values 61) same ∙ two.1

-- one text is of one list of bytes
pub written-injective : (encoding : Encoding) (xs ys : List ℕ) → IsBytes xs → IsBytes ys
    → written encoding xs ≡ written encoding ys → xs ≡ ys
written-injective Plain xs ys hx hy e = e
written-injective Hex xs ys hx hy e = encode_lower-injective xs ys hx hy e
written-injective Base64 xs ys hx hy e = encode_of-injective standard refl xs ys hx hy e
written-injective Base64NoPad xs ys hx hy e =
    encode_of-injective standard_no_pad refl xs ys hx hy e
written-injective Adapted xs ys hx hy e = adapted-injective xs ys hx hy e

-- so are a field, the byte that ends it and the rest
pub field_then-injective : (x : Encoding) (end : ℕ) {xs ys s t : List ℕ} → IsBytes xs → IsBytes ys
    → IsWithout end (written x xs) → IsWithout end (written x ys)
    → field_then x xs end s ≡ field_then x ys end t → (xs ≡ ys) × (s ≡ t)
field_then-injective x end {xs} {ys} {s} {t} hx hy ax ay e =
    let cut = cut_same end (written x xs) (written x ys) s t ax ay e in
    (written-injective x xs ys hx hy cut.0, cut.1)
