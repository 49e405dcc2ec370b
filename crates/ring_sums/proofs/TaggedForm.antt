-- SPDX-License-Identifier: ISC
-- The form of lines with a tag.
use Rattle.std.proofs.Common.{◌≡◌, ◌-◌, ℕ, Bool, eqb, List, [], ◌∷◌, ◌++◌, Option}
use Rattle.std.proofs.Common.{None, Some, ◌||◌, arith, get_or, inl, inr, not, refl, sym, ap}
use Rattle.std.proofs.Common.{subst, true, ◌∙◌, drop}
use Rattle.std.proofs.lemmas.Bool.{cases_Bool, false≢true, true≢false}
use Rattle.std.proofs.lemmas.List.{append_cancel_left}
use Rattle.std.proofs.lemmas.List.Sums.{AllPass-from_list_all}
use Rattle.std.proofs.lemmas.Option.{same_Some}
use Rattle.std.specs.Char.{is_ascii_hexdigit}
use Rattle.std.specs.List.{Contains, find, list_all}
use Rattle.std.specs.Str.{bytes_eq}
use Rattle.ring.specs.Prelude.{algorithms, row_of}
use Rattle.ring.specs.declared.digest.algorithm.Algorithm.{Algorithm}
use Rattle.ring.specs.declared.digest.algorithm.AlgorithmId.{AlgorithmId}
use Rattle.ring.specs.declared.digest.algorithm.AlgorithmId.TheVariants.{Sha1}
use Rattle.ring_text.proofs.Cuts.{run_same}
use Rattle.ring_sums.specs.Entry.{HasPlainForm, HasTaggedForm, IsLastCut, algorithms_read}
use Rattle.ring_sums.specs.Entry.{behind_space, behind_white, tag_of}
use Rattle.ring_sums.proofs.Fronts.{last_cut_same}
use Rattle.ring_sums.proofs.PlainForm.{plain-first}

-- what is read of a line with the form, step by step
module _ {line tag name digits : List ℕ} (form : HasTaggedForm line tag name digits)
    (opened : List ℕ) (begins : line ≡ tag ++ opened) where
  pub opened-at : behind_space opened ≡ 40 ∷ form.inner
  opened-at =
      ap behind_space (append_cancel_left tag opened form.opened (sym begins ∙ form.begins))
      ∙ form.opens

  pub cut-at : {inner : List ℕ} → behind_space opened ≡ 40 ∷ inner
      → IsLastCut 41 inner name form.rest
  cut-at opens =
      subst (λ l. IsLastCut 41 l name form.rest) (ap (drop 1) (sym opened-at ∙ opens)) form.cut

  pub equals-at : {inner before behind : List ℕ} → behind_space opened ≡ 40 ∷ inner
      → IsLastCut 41 inner before behind
      → (name ≡ before) × (behind_white behind ≡ 61 ∷ form.behind)
  equals-at opens cut =
      let same = last_cut_same (cut-at opens) cut in
      (same.0, ap behind_white (sym same.1) ∙ form.equals)

-- its parts are known from the line and the tag
pub tagged-same : {line tag n m d e : List ℕ} → HasTaggedForm line tag n d
    → HasTaggedForm line tag m e → (n ≡ m) × (d ≡ e)
tagged-same one two =
    let same = equals-at one two.opened two.begins two.opens two.cut in
    let behind : one.behind ≡ two.behind = ap (drop 1) (sym same.1 ∙ two.equals) in
    (same.0, one.ends ∙ ap behind_white behind ∙ sym two.ends)

-- ---- tags

-- a space or an opening parenthesis is behind a tag, and in none
abbrev ends_tag : ℕ → Bool
ends_tag byte = eqb byte 32 || eqb byte 40

abbrev IsOfTag : ℕ → Type 0
IsOfTag byte = not (ends_tag byte) ≡ true

tag-bytes : (id : AlgorithmId)
    → list_all (λ byte. not (ends_tag byte)) (tag_of (record { id = id })) ≡ true
tag-bytes Sha1 = refl
tag-bytes other = refl

-- the byte behind a tag, and the rest
record IsOpened (opened : List ℕ) : Type 0 where
  first : ℕ
  rest : List ℕ
  whole : opened ≡ first ∷ rest
  ends : IsOfTag first → ⊥

opened-ends : (opened : List ℕ) {inner : List ℕ} → behind_space opened ≡ 40 ∷ inner
    → IsOpened opened
opened-ends [] opens = absurd (cc)
opened-ends (byte ∷ rest) opens = record {
  first = byte;
  rest = rest;
  whole = refl;
  ends = λ inside. elim (cases_Bool (eqb byte 32)) [
    | inl is ↦ false≢true (rw is at inside)
    | inr other ↦
        let here : byte ≡ 40 = ap (λ l. get_or l 0 0) (rw other at opens) in
        false≢true (rw here at inside)
  ];
}

-- the algorithm of a tag
algorithm_of_tag : List ℕ → Option Algorithm
algorithm_of_tag tag = find (λ a. bytes_eq tag (tag_of a)) algorithms

tag-known : (id : AlgorithmId)
    → algorithm_of_tag (tag_of (record { id = id })) ≡ Some (record { id = id })
unfolding algorithm_of_tag
tag-known Sha1 = refl
tag-known other = refl

-- a line has one tag
pub tag-same : {line : List ℕ} (a b : Algorithm) {n m d e : List ℕ}
    → HasTaggedForm line (tag_of a) n d → HasTaggedForm line (tag_of b) m e → a ≡ b
tag-same a b one two =
    let x = opened-ends one.opened one.opens in
    let y = opened-ends two.opened two.opens in
    let lines : tag_of a ++ x.first ∷ x.rest ≡ tag_of b ++ y.first ∷ y.rest =
    ap (λ (z : List ℕ). tag_of a ++ z) (sym x.whole) ∙ sym one.begins ∙ two.begins
    ∙ ap (λ (z : List ℕ). tag_of b ++ z) y.whole in
    let run = run_same IsOfTag {x = x.first} {y = y.first} x.ends y.ends (tag_of a) (tag_of b)
    (AllPass-from_list_all (λ byte. not (ends_tag byte)) (tag_of a) (tag-bytes a.id))
    (AllPass-from_list_all (λ byte. not (ends_tag byte)) (tag_of b) (tag-bytes b.id)) lines in
    same_Some a b (sym (tag-known a.id) ∙ ap algorithm_of_tag run.0 ∙ tag-known b.id)

tag-first : (id : AlgorithmId) (opened : List ℕ)
    → get_or (tag_of (record { id = id }) ++ opened) 0 0 ≡ 83
tag-first Sha1 opened = refl
tag-first other opened = refl

pub tagged-first : {line : List ℕ} (a : Algorithm) {n d : List ℕ}
    → HasTaggedForm line (tag_of a) n d → get_or line 0 0 ≡ 83
tagged-first a form =
    ap (λ l. get_or l 0 0) form.begins ∙ tag-first a.id form.opened

-- no line has both forms
pub forms-apart : {asked : Option Algorithm} {line : List ℕ} (a : Algorithm) {b : Algorithm}
    {n d e r : List ℕ} → HasTaggedForm line (tag_of a) n d → HasPlainForm asked line b e r → ⊥
forms-apart a one two =
    true≢false (sym (plain-first two) ∙ ap is_ascii_hexdigit (tagged-first a one))

-- ---- algorithms

-- each is one of all, at the place that its number tells
pub among-all : (id : AlgorithmId) → Contains (algorithms_read None) (record { id = id })
among-all Sha1 = (0, omega arith, refl)
among-all other = ((row_of other).number - 1, omega arith, refl)
