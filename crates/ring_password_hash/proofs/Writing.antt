-- SPDX-License-Identifier: ISC
-- A text is written piece by piece, and its length is that of its fields.
use Rattle.std.proofs.Common.{◌≡◌, ◌≤◌, ◌<◌, ◌+◌, ◌∷◌, ◌++◌, ◌∙◌, ℕ, Bool, true, false, List, []}
use Rattle.std.proofs.Common.{ap, append_assoc, arith, drop, length, sym, take}
use Rattle.std.specs.Prelude.{◌-◌, None, Option, Some, min, nat_le, not}
use Rattle.std.proofs.lemmas.Bool.Decides.{nat_tests}
use Rattle.std.proofs.lemmas.List.{length-append, length-drop, length-take}
use Rattle.std.specs.declared.num.NonZeroU32.{NonZeroU32}
use Rattle.ring_password_hash.specs.Scheme.{keeps_keys, kept_encoding_of, salt_encoding_of}
use Rattle.ring_password_hash.specs.Stored.{Parts, front_text, is_past, parts_text, text_of}
use Rattle.ring_password_hash.specs.Text.{IsPut, IsPutTo, field_then, head_then, kept_by, kept_text}
use Rattle.ring_password_hash.specs.Text.{written}
use Rattle.ring_password_hash.specs.declared.scheme.Encoding.{Encoding}
use Rattle.ring_password_hash.specs.declared.scheme.Encoding.TheVariants.{Base64}
use Rattle.ring_password_hash.specs.declared.scheme.Scheme.{Scheme}
use Rattle.ring_password_hash.specs.declared.text.Parameters.{Parameters}
use Rattle.ring_password_hash.specs.declared.text.TheConstants.{MAX_TEXT_LEN}
use Rattle.ring_password_hash.proofs.Heads.{append-head_then}
use Rattle.ring_password_hash.proofs.Pieces.{length-written, shorter}

abbrev front_of : Parts → List ℕ
front_of h = front_text h.scheme h.parameters h.iterations (length h.kept) h.salt

-- the text is what stands before what is kept, and that
pub text_parts : (h : Parts) → front_of h ++ kept_text h.scheme h.kept ≡ text_of h
unfolding parts_text
text_parts h =
    let n = length h.kept in
    let kept = kept_text h.scheme h.kept in
    let head = head_then h.scheme h.parameters h.iterations n [] in
    let salt = written (salt_encoding_of h.scheme) h.salt in
    append_assoc head (salt ++ 36 ∷ []) kept
    ∙ ap (λ (l : List ℕ). head ++ l) (append_assoc salt (36 ∷ []) kept)
    ∙ append-head_then h.scheme h.parameters h.iterations n (salt ++ 36 ∷ kept)

-- a piece was written behind another
pub put_on : (front piece : List ℕ) {whole old mid : List ℕ} (new : List ℕ) {start at : ℕ}
    → front ++ piece ≡ whole → IsPutTo start at front old mid → (r : Option ℕ)
    → IsPut at piece mid new r → IsPut start whole old new r
put_on front piece {old = old} new {start = start} e one (Some end) two =
    let long = length-append front piece in
    let whole = ap length e in
    record {
      place = omega (arith, two.place, one.place, long, whole);
      within = two.within;
      bytes = two.bytes ∙ ap (λ l. l ++ piece) one.bytes ∙ append_assoc (take start old) front piece
          ∙ ap (λ l. take start old ++ l) e;
    }
put_on front piece new e one None more =
    let long = length-append front piece in
    let whole = ap length e in
    omega (arith, more, one.place, long, whole)

pub put_short : (h : Parts) → MAX_TEXT_LEN < 0 + length (front_of h)
    → MAX_TEXT_LEN < 0 + length (text_of h)
put_short h more =
    let long = length-append (front_of h) (kept_text h.scheme h.kept) in
    let whole = ap length (text_parts h) in
    omega (arith, more, long, whole)

-- the length of a text follows from that of what is kept
length-kept_by : (keys : Bool) (x : Encoding) (g h : List ℕ) → length g ≡ length h
    → length (kept_by keys x g) ≡ length (kept_by keys x h)
length-kept_by false x g h e = length-written x g h e
length-kept_by true x g h e =
    let first = length-written Base64 (take 32 g) (take 32 h)
    (length-take 32 g ∙ ap (min 32) e ∙ sym (length-take 32 h)) in
    let last = length-written Base64 (drop 32 g) (drop 32 h)
    (length-drop 32 g ∙ ap (λ n. n - 32) e ∙ sym (length-drop 32 h)) in
    let one = length-append (written Base64 (take 32 g)) (58 ∷ written Base64 (drop 32 g)) in
    let two = length-append (written Base64 (take 32 h)) (58 ∷ written Base64 (drop 32 h)) in
    omega (arith, first, last, one, two)

module _ (k : Scheme) (p : Parameters) (c : NonZeroU32) (s : List ℕ) where
  abbrev of_kept : List ℕ → Parts
  of_kept h = record { scheme = k; parameters = p; iterations = c; salt = s; kept = h }

  pub length-parts_text : (g h : List ℕ) → length g ≡ length h
      → length (parts_text k p c s g) ≡ length (parts_text k p c s h)
  length-parts_text g h e =
      let kept = length-kept_by (keeps_keys k) (kept_encoding_of k) g h e in
      let front : length (front_of (of_kept g)) ≡ length (front_of (of_kept h)) =
      ap (λ (n : ℕ). length (front_text k p c n s)) e in
      let one = length-append (front_of (of_kept g)) (kept_text k g) in
      let two = length-append (front_of (of_kept h)) (kept_text k h) in
      sym (ap length (text_parts (of_kept g))) ∙ omega (arith, front, kept, one, two)
      ∙ ap length (text_parts (of_kept h))

  -- and it is longer than the salt
  pub salt_shorter : (h : List ℕ) → length s < length (parts_text k p c s h)
  salt_shorter h =
      let salt = shorter (salt_encoding_of k) s in
      let field = field_then (salt_encoding_of k) s 36 [] in
      let one = length-append (front_of (of_kept h)) (kept_text k h) in
      let two = length-append (head_then k p c (length h) []) field in
      let three = length-append (written (salt_encoding_of k) s) (36 ∷ []) in
      let whole = ap length (text_parts (of_kept h)) in
      omega (arith, salt, one, two, three, whole)

-- the length of one text tells whether another of the same length has room
module _ (kept text : List ℕ) (same : length text ≡ length kept) (room : ℕ) where
  pub room_told : (len : ℕ) → len ≡ length kept → len ≤ MAX_TEXT_LEN
      → is_past room text ≡ not (nat_le len room)
  room_told len told within = grind (arith, nat_tests, same, told, within)

  pub room_past : MAX_TEXT_LEN < 0 + length kept → is_past room text ≡ true
  room_past more = grind (arith, nat_tests, same, more)
