-- SPDX-License-Identifier: ISC
-- Base64url piece by piece: 64 symbols are 48 bytes.
use Rattle.std.proofs.Common.{◌≡◌, ◌≤◌, ◌∙◌, ◌++◌, ◌∷◌, ◌%◌, ℕ, zero, suc, List, []}
use Rattle.std.proofs.Common.{ap, arith, drop, length, length-append, subst, sym, take}
use Rattle.std.specs.Prelude.{◌↔◌}
use Rattle.std.proofs.lemmas.List.{append_cancel_left, length-take-le, take-append-drop, take_at}
use Rattle.hex.specs.Hex.{IsBytes}
use Rattle.base64.specs.Engines.{url_safe_no_pad}
use Rattle.base64.proofs.EngineFacts.{encode_of-append}
use Rattle.ring_text.proofs.Base64.{bytes_behind, bytes_front}
use Rattle.ring_tokens.specs.Jws.{IsBase64url, base64url}
use Rattle.ring_tokens.proofs.Puts.{length_base64url}

bytes_joined : (a b : List ℕ) → IsBytes a → IsBytes b → IsBytes (a ++ b)
bytes_joined [] b ha hb i = hb i
bytes_joined (x ∷ a) b ha hb zero = ha 0
bytes_joined (x ∷ a) b ha hb (suc i) = bytes_joined a b (λ k. ha (suc k)) hb i

joined : {s t : List ℕ} → length s ≡ 64 → IsBase64url s → IsBase64url t → IsBase64url (s ++ t)
joined {s} {t} len one two =
    let a = one.octets in
    let whole : length a % 3 ≡ 0 = omega (arith, len, ap length one.is, length_base64url a) in
    record {
      octets = a ++ two.octets;
      are = bytes_joined a two.octets one.are two.are;
      is = ap (λ r. r ++ t) one.is ∙ ap (λ r. base64url a ++ r) two.is
          ∙ sym (encode_of-append url_safe_no_pad a two.octets whole);
    }

cut : {s t : List ℕ} → length s ≡ 64 → IsBase64url (s ++ t) → IsBase64url s × IsBase64url t
cut {s} {t} len w =
    let b = w.octets in
    let front = base64url (take 48 b) in
    let behind = base64url (drop 48 b) in
    let many : 48 ≤ length b =
    omega (arith, len, length-append s t, ap length w.is, length_base64url b) in
    let size = length-take-le 48 b many in
    let both : s ++ t ≡ front ++ behind =
    w.is ∙ ap base64url (sym (take-append-drop 48 b))
    ∙ encode_of-append url_safe_no_pad (take 48 b) (drop 48 b) (omega (arith, size)) in
    let long : length front ≡ 64 = omega (arith, length_base64url (take 48 b), size) in
    let first : s ≡ front =
    sym (take_at s t 64 len) ∙ ap (take 64) both ∙ take_at front behind 64 long in
    let last = append_cancel_left s t behind (both ∙ ap (λ r. r ++ behind) (sym first)) in (
      record { octets = take 48 b; are = bytes_front 48 b w.are; is = first },
      record { octets = drop 48 b; are = bytes_behind 48 b w.are; is = last },
    )

-- a text of 64 symbols or more is cut behind these
pub parted : (text : List ℕ) → 64 ≤ length text
    → IsBase64url text ↔ (IsBase64url (take 64 text) × IsBase64url (drop 64 text))
parted text many =
    let whole = take-append-drop 64 text in
    let len = length-take-le 64 text many in (
      λ w. cut len (subst IsBase64url (sym whole) w),
      λ w. subst IsBase64url whole (joined len w.0 w.1),
    )
