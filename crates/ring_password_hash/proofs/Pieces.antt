-- SPDX-License-Identifier: ISC
-- The lengths of pieces, and what a call that writes one says of its room.
use Rattle.std.proofs.Common.{◌≡◌, ◌≤◌, ◌+◌, ◌*◌, ◌++◌, ◌∙◌, ℕ, true, false, List}
use Rattle.std.proofs.Common.{ap, append_assoc, arith, length, sym, take}
use Rattle.std.proofs.lemmas.List.{length-append, length-take-le, take_at}
use borrow.Rule.Slice.PartMut.{post_of, put_mid}
use Rattle.hex.proofs.HexLemmas.{length-encode_with}
use Rattle.hex.specs.Hex.{encode_lower, lower_digits}
use Rattle.base64.specs.Engines.{standard, standard_no_pad}
use Rattle.base64.specs.Rfc4648.{encoded_size}
use Rattle.ring_text.proofs.Base64.{length-encode, length-encode_of}
use Rattle.ring_password_hash.specs.Text.{adapted_symbols, written}
use Rattle.ring_password_hash.specs.declared.scheme.Encoding.{Encoding}
use Rattle.ring_password_hash.specs.declared.scheme.Encoding.TheVariants.{Plain, Hex, Base64}
use Rattle.ring_password_hash.specs.declared.scheme.Encoding.TheVariants.{Base64NoPad, Adapted}

pub two_digits_each : (bytes : List ℕ) → length (encode_lower bytes) ≡ 2 * length bytes
two_digits_each bytes = length-encode_with lower_digits bytes

-- what was put between two places
pub take-put : (at len k : ℕ) (xs : List ℕ) {ys : List ℕ} (piece rest : List ℕ)
    → (ys ≡ piece ++ rest) × (len ≡ length piece) → at ≤ length xs
    → take (at + len) (put_mid at k xs ys) ≡ take at xs ++ piece
take-put at len k xs {ys} piece rest put fits =
    let front = take at xs ++ piece in
    let behind = rest ++ post_of at k xs in
    let whole : put_mid at k xs ys ≡ front ++ behind = rw put.0 (simp append_assoc) in
    let end : length front ≡ at + len =
    omega (arith, length-append (take at xs) piece, length-take-le at xs fits, put.1) in
    ap (take (at + len)) whole ∙ take_at front behind (at + len) end

-- the length of a field follows from that of its bytes
pub length-written : (x : Encoding) (a b : List ℕ) → length a ≡ length b
    → length (written x a) ≡ length (written x b)
length-written Plain a b e = e
length-written Hex a b e = omega (arith, two_digits_each a, two_digits_each b, e)
length-written Base64 a b e =
    length-encode_of standard a ∙ ap (λ n. encoded_size n true) e
    ∙ sym (length-encode_of standard b)
length-written Base64NoPad a b e =
    length-encode_of standard_no_pad a ∙ ap (λ n. encoded_size n false) e
    ∙ sym (length-encode_of standard_no_pad b)
length-written Adapted a b e =
    length-encode adapted_symbols a 61 false ∙ ap (λ n. encoded_size n false) e
    ∙ sym (length-encode adapted_symbols b 61 false)

-- no field is shorter than its bytes
pub shorter : (x : Encoding) (a : List ℕ) → length a ≤ length (written x a)
shorter Plain a = omega arith
shorter Hex a = omega (arith, two_digits_each a)
shorter Base64 a = omega (arith, length-encode_of standard a)
shorter Base64NoPad a = omega (arith, length-encode_of standard_no_pad a)
shorter Adapted a = omega (arith, length-encode adapted_symbols a 61 false)
