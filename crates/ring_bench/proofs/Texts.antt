-- SPDX-License-Identifier: ISC
-- Lemmas on a text, its lines, and what ends them.
use Rattle.std.proofs.Common.{◌≡◌, ◌==◌, ℕ, zero, suc, ◌+◌, ◌-◌, ◌<◌, true, false, cond, List, []}
use Rattle.std.proofs.Common.{◌∷◌, ◌++◌, length, take, refl, sym, ap, ◌∙◌, append_assoc, arith}
use Rattle.std.specs.List.{slice_split, onto_first}
use Rattle.std.proofs.lemmas.List.Splits.{slice_split_at, slice_split_none, length-slice_split}
use Rattle.std.proofs.lemmas.Bool.{eq-eqb}
use Rattle.ring_bench.specs.Cut.{IsFirstCut, IsWithout}
use Rattle.ring_bench.specs.Text.{is_line_feed, without_return, lines, lines_of_cuts, ended_lines}
use Rattle.ring_bench.specs.Session.{HasNoLineFeed}

-- what stands before the first such byte is the first part
pub IsFirstCut-split : {byte : ℕ} {text before behind : List ℕ}
    → IsFirstCut byte text before behind
    → slice_split (λ b. b == byte) text ≡ before ∷ slice_split (λ b. b == byte) behind
IsFirstCut-split {byte} {text} {before} {behind} cut =
    ap (slice_split (λ b. b == byte)) cut.whole
    ∙ slice_split_at (λ b. b == byte) before byte behind cut.first (eq-eqb byte byte refl)

-- a part moves from the text to the parts, of which so many are asked for
pub parts-next : {byte : ℕ} {text before behind : List ℕ} (most n : ℕ) (parts : List (List ℕ))
    → n < most → IsFirstCut byte text before behind
    → (parts ++ before ∷ []) ++ take (most - (n + 1)) (slice_split (λ b. b == byte) behind)
    ≡ parts ++ take (most - n) (slice_split (λ b. b == byte) text)
parts-next {byte} {text} {before} {behind} most n parts below cut =
    let more : most - n ≡ suc (most - (n + 1)) = omega arith in
    let others = take (most - (n + 1)) (slice_split (λ b. b == byte) behind) in
    append_assoc parts (before ∷ []) others
    ∙ ap (λ l. parts ++ l) (sym (rw (more, IsFirstCut-split cut) refl))

take_one : (k : ℕ) (part : List ℕ) → 0 < k → take k (part ∷ []) ≡ part ∷ []
take_one zero part some = absurd (omega arith)
take_one (suc zero) part some = refl
take_one (suc (suc k)) part some = refl

-- the last part is the text that is left
pub parts-last : (byte most n : ℕ) (parts : List (List ℕ)) (text : List ℕ) → n < most
    → IsWithout byte text
    → parts ++ text ∷ [] ≡ parts ++ take (most - n) (slice_split (λ b. b == byte) text)
parts-last byte most n parts text below none =
    let alone = take_one (most - n) text (omega arith) in
    ap (λ l. parts ++ l) (sym (rw (slice_split_none (λ b. b == byte) text none) alone))

-- more text comes behind it
IsFirstCut-more : {byte : ℕ} {text before behind : List ℕ} → IsFirstCut byte text before behind
    → (more : List ℕ) → IsFirstCut byte (text ++ more) before (behind ++ more)
IsFirstCut-more {byte} {text} {before} {behind} cut more = record {
  whole = ap (λ l. l ++ more) cut.whole ∙ append_assoc before (byte ∷ behind) more;
  first = cut.first;
}

-- a part before other parts is a line
lines-cons : (cut : List ℕ) (parts : List (List ℕ)) → 0 < length parts
    → lines_of_cuts (cut ∷ parts) ≡ without_return cut ∷ lines_of_cuts parts
lines-cons cut [] some = absurd (omega arith)
lines-cons cut (part ∷ parts) some = refl

-- a text is its first line and others, where a line feed ends that line
module _ {text line behind : List ℕ} (cut : IsFirstCut 10 text line behind) (more : List ℕ) where
  pub lines-next : lines (text ++ more) ≡ without_return line ∷ lines (behind ++ more)
  lines-next =
      let some = length-slice_split is_line_feed (behind ++ more) in
      ap lines_of_cuts (IsFirstCut-split (IsFirstCut-more cut more))
      ∙ lines-cons line (slice_split is_line_feed (behind ++ more)) (omega (arith, some))

  pub ended_lines-next : ended_lines (text ++ more) ≡ 1 + ended_lines (behind ++ more)
  ended_lines-next =
      let parts = ap length (IsFirstCut-split (IsFirstCut-more cut more)) in
      let of_text = length-slice_split is_line_feed (text ++ more) in
      let of_rest = length-slice_split is_line_feed (behind ++ more) in
      omega (arith, parts, of_text, of_rest)

-- a text without a line feed is one line, where it is not empty
pub one_line : (text : List ℕ) → HasNoLineFeed text → 0 < length text
    → lines text ≡ without_return text ∷ []
one_line [] none some = absurd (omega arith)
one_line (b ∷ bs) none some = ap lines_of_cuts (slice_split_none is_line_feed (b ∷ bs) none)

some_first : (b : ℕ) (parts : List (List ℕ)) → 0 < length parts
    → 0 < length (lines_of_cuts (onto_first b parts))
some_first b [] some = absurd (omega arith)
some_first b (part ∷ []) some = omega arith
some_first b (part ∷ second ∷ others) some = omega arith

-- some text has some line
pub some_line : (text : List ℕ) → 0 < length text → 0 < length (lines text)
some_line [] some = absurd (omega arith)
some_line (b ∷ bs) some =
    let cuts = slice_split is_line_feed bs in
    let parts : 0 < length cuts = omega (arith, length-slice_split is_line_feed bs) in
    elim (is_line_feed b)
    as (λ v. 0 < length (lines_of_cuts (cond v ([] ∷ cuts) (onto_first b cuts)))) [
      | true ↦ (let e = ap length (lines-cons [] cuts parts) in omega arith)
      | false ↦ some_first b cuts parts
    ]
