-- SPDX-License-Identifier: ISC
-- A signature's text is decoded in one way.
use Rattle.std.proofs.Common.{◌≡◌, ◌≢◌, ◌≤◌, ◌∙◌, ◌++◌, ℕ, Bool, List, ap, arith, false, length}
use Rattle.std.proofs.Common.{nat_eq, refl, sym, take, true}
use Rattle.std.specs.Option.{option_eq}
use Rattle.std.specs.Prelude.{IfSome, IsNone, IsTrue, None, Option, Some}
use Rattle.std.proofs.lemmas.Bool.{eq-eqb, eqb-true}
use Rattle.std.proofs.lemmas.List.{append_cancel_left, length-take-le}
use Rattle.hex.specs.Hex.{IsBytes, encode_lower}
use Rattle.ring_text.proofs.LowerHex.{encode_lower-injective}
use Rattle.ring_tokens.specs.InPlace.{IsDecoded}
use Rattle.ring_tokens.specs.Jws.{IsBase64url, base64url}
use Rattle.ring_tokens.proofs.Puts.{length_base64url}
use Rattle.ring_tokens.proofs.Symbols.{base64url-injective}

-- what was decoded to as many bytes as the tag has, and to the tag, is the tag's text
pub is_text : {text tag : List ℕ} (given old : List ℕ) (r : Option ℕ)
    → IfSome r (λ n. IsDecoded text n old given) → option_eq nat_eq r (Some (length tag)) ≡ true
    → tag ≡ take (length tag) given → text ≡ base64url tag
is_text {tag = tag} given old (Some n) d some same =
    let len = eqb-true n (length tag) some in
    d.is ∙ ap base64url (ap (λ m. take m given) len ∙ sym same)
is_text given old None d some same = absurd (cc some)

-- the text of a tag is decoded to the tag
pub text_is_decoded : {text tag : List ℕ} (given old : List ℕ) (r : Option ℕ)
    → IfSome r (λ n. IsDecoded text n old given)
    → (IsNone r → length text ≤ 86 → IsBase64url text → ⊥)
    → IsBytes tag × (length tag ≤ 64)
    → length old ≡ length given → text ≡ base64url tag
    → (option_eq nat_eq r (Some (length tag)) ≡ true) × (tag ≡ take (length tag) given)
text_is_decoded {tag = tag} given old (Some n) d _ short same is =
    let front : take n given ≡ tag =
    base64url-injective (take n given) tag d.octets short.0 (sym d.is ∙ is) in
    let within : n ≤ length given = (let w = d.within in omega (arith, w, same)) in
    let len : n ≡ length tag = sym (length-take-le n given within) ∙ ap length front in
    (eq-eqb n (length tag) len, sym front ∙ ap (λ m. take m given) len)
text_is_decoded {text} {tag} given old None d none short same is =
    let long = ap length is ∙ length_base64url tag in
    absurd (none refl (omega (arith, long, short.1))
    (record { octets = tag; are = short.0; is = is }))

-- the text of a name and a tag in hex is read as the tag
pub named_is_read : (name given : List ℕ) {text tag : List ℕ} {n : ℕ} (r : Bool)
    → (IsTrue r → (text ≡ name ++ encode_lower given) × IsBytes given)
    → (¬ (IsTrue r) → (bytes : List ℕ) → IsBytes bytes → length bytes ≡ n
    → text ≢ name ++ encode_lower bytes)
    → IsBytes tag → length tag ≡ n → text ≡ name ++ encode_lower tag
    → IsTrue r × (tag ≡ given)
named_is_read name given {tag = tag} true read _ bytes _ is =
    let same = append_cancel_left name (encode_lower given) (encode_lower tag)
    (sym (read refl).0 ∙ is) in
    (refl, sym (encode_lower-injective given tag (read refl).1 bytes same))
named_is_read name given {tag = tag} false _ none bytes len is =
    absurd (none (λ e. cc e) tag bytes len is)
