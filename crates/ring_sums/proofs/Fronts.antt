-- SPDX-License-Identifier: ISC
-- Lines cut behind white space, behind digits and at the last byte of a kind: each in one way.
use Rattle.std.proofs.Common.{◌≡◌, ℕ, ◌+◌, ◌<◌, eqb, ltb, not, Bool, true, false, List, [], ◌∷◌}
use Rattle.std.proofs.Common.{◌++◌, length, take, drop, get_or, Some, None, refl, sym, ap, ◌∙◌}
use Rattle.std.proofs.Common.{arith, add-one, one-add, inl, inr, length-append, length-drop}
use Rattle.std.proofs.Math.ListN.{drop_of_length-le}
use Rattle.std.proofs.Math.Seq.{split_at}
use Rattle.std.proofs.lemmas.Bool.{and_parts, cases_Bool, eqb-true, false_from_ne_true, lt-ltb}
use Rattle.std.proofs.lemmas.Bool.{ltb-false, or_cases}
use Rattle.std.proofs.lemmas.List.{get_or-drop}
use Rattle.std.proofs.lemmas.List.Elements.{All-from_get_or}
use Rattle.std.proofs.lemmas.Option.{cond_some}
use Rattle.std.specs.Char.{is_ascii_hexdigit}
use Rattle.std.specs.List.{list_all, position, position_or_len}
use Rattle.memchr.specs.Find.{NoneAfter, Nowhere, Passes, is_byte}
use Rattle.ring_text.specs.Cut.{IsWithout}
use Rattle.ring_text.proofs.Cuts.{first_of_list, not_cut}
use Rattle.ring_sums.specs.Entry.{IsLastCut, behind_white, is_white}

-- ---- white space

-- bytes that begin with none stand behind none, and behind a space
pub white-front : (text : List ℕ) → is_white (get_or text 0 0) ≡ false
    → (behind_white text ≡ text) × (behind_white (32 ∷ text) ≡ text)
white-front [] none = (refl, refl)
white-front (byte ∷ rest) none = rw none (refl, refl)

abbrev is_text : ℕ → Bool
is_text byte = not (is_white byte)

-- from its place on
pub white-place : (bytes : List ℕ) (place : ℕ) → Some place ≡ position is_text bytes
    → drop place bytes ≡ behind_white bytes
white-place bytes place h =
    let found = cond_some (ltb (position_or_len is_text bytes) (length bytes))
    (position_or_len is_text bytes) place (sym h) in
    ap (λ (n : ℕ). drop n bytes) (sym found.1)

-- all is white space
pub white-all : (bytes : List ℕ) → None ≡ position is_text bytes → [] ≡ behind_white bytes
white-all bytes h = elim (cases_Bool (ltb (position_or_len is_text bytes) (length bytes))) [
  | inl within ↦ let found = rw within at h in cc
  | inr past ↦ sym (drop_of_length-le bytes (ltb-false _ _ past))
]

-- ---- digits

-- white space is no digit
pub white-no_digit : (byte : ℕ) → is_white byte ≡ true → is_ascii_hexdigit byte ≡ false
white-no_digit byte is = elim (or_cases (eqb byte 32) (eqb byte 9) is) [
  | inl space ↦ rw (eqb-true byte 32 space)
  | inr tab ↦ rw (eqb-true byte 9 tab)
]

-- the digits end at the first byte that is none
digits_end : (digits : List ℕ) (byte : ℕ) (rest : List ℕ)
    → list_all is_ascii_hexdigit digits ≡ true → is_ascii_hexdigit byte ≡ false
    → position_or_len (λ b. not (is_ascii_hexdigit b)) (digits ++ byte ∷ rest) ≡ length digits
digits_end [] byte rest h other = rw other
digits_end (digit ∷ digits) byte rest h other =
    let parts = and_parts (is_ascii_hexdigit digit) (list_all is_ascii_hexdigit digits) h in
    rw (parts.0, digits_end digits byte rest parts.1 other, one-add)

pub digits_end_at : (digits : List ℕ) (byte : ℕ) (rest : List ℕ)
    → list_all is_ascii_hexdigit digits ≡ true → is_ascii_hexdigit byte ≡ false
    → position (λ b. not (is_ascii_hexdigit b)) (digits ++ byte ∷ rest) ≡ Some (length digits)
digits_end_at digits byte rest h other =
    let at = digits_end digits byte rest h other in
    let within : length digits < length (digits ++ byte ∷ rest) =
    simp length-append (omega arith) in
    rw (at, lt-ltb (length digits) (length (digits ++ byte ∷ rest)) within)

-- ---- the last byte of a kind

-- what stands before and behind it is known from the whole
last_lists : (byte : ℕ) (f g s t : List ℕ) → IsWithout byte s → IsWithout byte t
    → f ++ byte ∷ s ≡ g ++ byte ∷ t → (f ≡ g) × (s ≡ t)
last_lists byte [] [] s t hs ht e = (refl, ap (drop 1) e)
last_lists byte [] (b ∷ g) s t hs ht e = absurd (not_cut byte g t s hs (ap (drop 1) e))
last_lists byte (a ∷ f) [] s t hs ht e = absurd (not_cut byte f s t ht (sym (ap (drop 1) e)))
last_lists byte (a ∷ f) (b ∷ g) s t hs ht e =
    let rest = last_lists byte f g s t hs ht (ap (drop 1) e) in
    let first : a ≡ b = ap (first_of_list 0) e in
    let front : a ∷ f ≡ b ∷ g = cc (first, rest.0) in (front, rest.1)

pub last_cut_same : {byte : ℕ} {line f g s t : List ℕ} → IsLastCut byte line f s
    → IsLastCut byte line g t → (f ≡ g) × (s ≡ t)
last_cut_same {byte} {f = f} {g} {s} {t} one two =
    last_lists byte f g s t one.last two.last (sym one.whole ∙ two.whole)

-- there is none
pub last_cut-none : (byte : ℕ) (line before behind : List ℕ)
    → Nowhere (Passes (is_byte byte) line) 0 (length line) → IsLastCut byte line before behind → ⊥
last_cut-none byte line before behind none cut =
    not_cut byte before behind line
    (All-from_get_or (λ b. eqb b byte ≡ false) line 0
    (λ i within. false_from_ne_true _ (none i (omega arith) within)))
    cut.whole

-- its place
pub last_cut-place : (byte : ℕ) (line : List ℕ) (place : ℕ)
    → NoneAfter (Passes (is_byte byte) line) 0 (length line) place
    → Passes (is_byte byte) line place
    → IsLastCut byte line (take place line) (drop (place + 1) line)
last_cut-place byte line place last here =
    let split = rw (eqb-true _ byte here) at (split_at line place 0 last.high) in
    record {
      whole = rw add-one split;
      last = All-from_get_or (λ b. eqb b byte ≡ false) _ 0 (λ i within.
          rw get_or-drop (false_from_ne_true _ (last.after (place + 1 + i) (omega arith)
          (let l = simp length-drop at within in omega arith))));
    }
