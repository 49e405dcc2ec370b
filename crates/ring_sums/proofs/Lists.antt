-- SPDX-License-Identifier: ISC
-- Lists, line by line.
use Rattle.std.proofs.Common.{◌≡◌, ℕ, ◌+◌, ◌<◌, eqb, Bool, List, [], ◌∷◌, ◌++◌, length, refl, sym}
use Rattle.std.proofs.Common.{ap, inl, inr, ◌∙◌, ◌≤◌}
use Rattle.std.proofs.Common.{true, false, codes, Some, ◌&&◌}
use Rattle.std.proofs.Common.{Option, append_assoc, arith, length-append, subst}
use Rattle.std.proofs.lemmas.List.{append-nil}
use Rattle.std.proofs.lemmas.Bool.{cases_Bool}
use Rattle.std.proofs.lemmas.List.Splits.{length-slice_split, slice_split-cons_no}
use Rattle.std.proofs.lemmas.List.Splits.{slice_split-cons_yes, slice_split_at, slice_split_none}
use Rattle.std.proofs.lemmas.List.Sums.{count_by-le-length}
use Rattle.std.specs.List.{onto_first}
use Rattle.std.specs.Str.{bytes_eq}
use Rattle.ring_text.specs.Cut.{IsFirstCut, IsWithout}
use Rattle.ring.specs.declared.digest.algorithm.Algorithm.{Algorithm}
use Rattle.ring_sums.specs.Entry.{Listed, Reading, gap_after, listed_in}
use Rattle.ring_sums.specs.List.{IsAppended, LineSays, LinesSay, Said, SaysUnless, TextSays}
use Rattle.ring_sums.specs.List.{is_passed_over}
use Rattle.ring_sums.specs.List.{lines_in, lists, said_of, without_return}
use Rattle.ring_sums.specs.declared.entry.Gap.{Gap}
use Rattle.ring_sums.proofs.ReadLines.{reading-one}

module _ {text line behind : List ℕ} (cut : IsFirstCut 10 text line behind) where
  pub length-cut : length behind < length text
  length-cut = rw cut.whole (simp length-append (omega arith))

  pub lines_in-cut : lines_in text ≡ line ∷ lines_in behind
  lines_in-cut =
      rw cut.whole (slice_split_at (λ byte. eqb byte 10) line 10 behind cut.first refl)

-- a text with no line feed is one line
pub lines_in-whole : (text : List ℕ) → IsWithout 10 text → lines_in text ≡ text ∷ []
lines_in-whole text none = slice_split_none (λ byte. eqb byte 10) text none

onto_first-append : (byte : ℕ) (parts more : List (List ℕ)) → 0 < length parts
    → onto_first byte (parts ++ more) ≡ onto_first byte parts ++ more
onto_first-append byte [] more some = absurd (omega (arith, some))
onto_first-append byte (part ∷ parts) more some = refl

-- lines behind a line feed are behind those before it
pub lines_in-both : (front behind : List ℕ)
    → lines_in (front ++ 10 ∷ behind) ≡ lines_in front ++ lines_in behind
lines_in-both [] behind = refl
lines_in-both (byte ∷ front) behind =
    let is_feed : ℕ → Bool = λ byte. eqb byte 10 in
    let both = lines_in-both front behind in
    let some : 0 < length (lines_in front) =
    omega (arith, length-slice_split is_feed front) in
    elim (cases_Bool (eqb byte 10)) [
      | inl is ↦ slice_split-cons_yes is_feed byte (front ++ 10 ∷ behind) is
          ∙ ap (λ (z : List (List ℕ)). [] ∷ z) both
          ∙ ap (λ (z : List (List ℕ)). z ++ lines_in behind)
          (sym (slice_split-cons_yes is_feed byte front is))
      | inr other ↦ slice_split-cons_no is_feed byte (front ++ 10 ∷ behind) other
          ∙ ap (onto_first byte) both
          ∙ onto_first-append byte (lines_in front) (lines_in behind) some
          ∙ ap (λ (z : List (List ℕ)). z ++ lines_in behind)
          (sym (slice_split-cons_no is_feed byte front other))
    ]

-- a text has no more lines than bytes, and one
pub lines_in-few : (text : List ℕ) → length (lines_in text) ≤ length text + 1
lines_in-few text =
    omega (
      arith,
      length-slice_split (λ byte. eqb byte 10) text,
      count_by-le-length (λ byte. eqb byte 10) text,
    )

-- what is listed is said, unless a list on standard input lists itself
pub said-listed : (listed : Listed) (number : ℕ) (is_standard_input : Bool)
    → (is_standard_input && bytes_eq listed.name (codes "-")) ≡ false
    → lists listed ≡ said_of (Some listed) number is_standard_input
unfolding said_of
said-listed listed number is_standard_input other = rw other

-- what the rest says stands behind what is said so far in what the whole says
pub record IsSaidTo (asked : Option Algorithm) (is_standard_input : Bool) (start : ℕ) (first : Gap)
    (text : List ℕ) (number : ℕ) (gap : Gap) (front : List Said) (rest : List ℕ) : Type 0 where
  pub joins : (said : List Said) (after : Gap)
      → LinesSay asked is_standard_input number gap (lines_in rest) said after
      → LinesSay asked is_standard_input start first (lines_in text) (front ++ said) after

module _ {asked : Option Algorithm} {is_standard_input : Bool} {number : ℕ} {gap : Gap}
    {line : List ℕ} {old : List Said} where
  -- a line that is passed over says nothing
  pub passed-line : is_passed_over (without_return line) ≡ true
      → IsAppended asked is_standard_input number gap gap line old old
  passed-line is = record {
    said = [];
    says = record { is = rw is (refl, refl) };
    is = sym (append-nil old);
  }

  -- any other what its text says
  pub read-line : is_passed_over (without_return line) ≡ false → {one : Said} {after : Gap}
      → TextSays asked is_standard_input number gap (without_return line) one after
      → {new : List Said} → new ≡ old ++ one ∷ []
      → IsAppended asked is_standard_input number gap after line old new
  read-line other {one} says is = record {
    said = one ∷ [];
    says = record { is = rw other (one, refl, says) };
    is = is;
  }

-- an empty line says nothing
pub empty-says : (asked : Option Algorithm) (is_standard_input : Bool) (number : ℕ) (gap : Gap)
    → LineSays asked is_standard_input number gap [] [] gap
unfolding without_return is_passed_over
empty-says asked is_standard_input number gap = record { is = (refl, refl) }

-- and so does an empty text
pub nothing-says : (asked : Option Algorithm) (is_standard_input : Bool) (number : ℕ) (gap : Gap)
    → LinesSay asked is_standard_input number gap (lines_in []) [] gap
unfolding LinesSay
nothing-says asked is_standard_input number gap =
    ([], [], gap, empty-says asked is_standard_input number gap, (refl, refl), refl)

-- lines say no more than one thing each
line-few : (asked : Option Algorithm) (is_standard_input : Bool) (number : ℕ) (gap : Gap)
    (text : List ℕ) (passed : Bool) (said : List Said) (after : Gap)
    → SaysUnless passed asked is_standard_input number gap text said after → length said ≤ 1
line-few asked is_standard_input number gap text true said after one =
    omega (arith, ap length one.0)
line-few asked is_standard_input number gap text false said after one =
    omega (arith, ap length one.1)

pub says-few : (asked : Option Algorithm) (is_standard_input : Bool) (number : ℕ)
    (gap after : Gap) (lines : List (List ℕ)) (said : List Said)
    → LinesSay asked is_standard_input number gap lines said after → length said ≤ length lines
unfolding LinesSay
says-few asked is_standard_input number gap after [] said one = omega (arith, ap length one.0)
says-few asked is_standard_input number gap after (line ∷ lines) said one =
    omega (
      arith,
      ap length one.5,
      length-append one.0 one.1,
      line-few asked is_standard_input number gap (without_return line) _ one.0 one.2 one.3.is,
      says-few asked is_standard_input (number + 1) one.2 after lines one.1 one.4,
    )

-- lines say what they say, and those behind them
pub says-both : (asked : Option Algorithm) (is_standard_input : Bool) (number : ℕ)
    (gap between after : Gap) (lines more : List (List ℕ)) (said rest : List Said)
    → LinesSay asked is_standard_input number gap lines said between
    → LinesSay asked is_standard_input (number + length lines) between more rest after
    → LinesSay asked is_standard_input number gap (lines ++ more) (said ++ rest) after
unfolding LinesSay
says-both asked is_standard_input number gap between after [] more said rest one two =
    let none : number + 0 ≡ number = omega arith in
    subst (λ l. LinesSay asked is_standard_input number gap more l after)
    (ap (λ l. l ++ rest) (sym one.0))
    (subst (λ g. LinesSay asked is_standard_input number g more rest after) one.1
    (subst (λ n. LinesSay asked is_standard_input n between more rest after) none two))
says-both asked is_standard_input number gap between after (line ∷ lines) more said rest one two =
    let further : number + length (line ∷ lines) ≡ (number + 1) + length lines = omega arith in (
      one.0,
      one.1 ++ rest,
      one.2,
      one.3,
      says-both asked is_standard_input (number + 1) one.2 between after lines more one.1 rest one.4
          (subst (λ n. LinesSay asked is_standard_input n between more rest after) further two),
      ap (λ l. l ++ rest) one.5 ∙ append_assoc one.0 one.1 rest,
    )

-- a text says one thing
says-one : (asked : Option Algorithm) (is_standard_input : Bool) (number : ℕ) (gap : Gap)
    (text : List ℕ) (passed : Bool) {s t : List Said} {a b : Gap}
    → SaysUnless passed asked is_standard_input number gap text s a
    → SaysUnless passed asked is_standard_input number gap text t b → (s ≡ t) × (a ≡ b)
says-one asked is_standard_input number gap text true one two =
    (one.0 ∙ sym two.0, one.1 ∙ sym two.1)
says-one asked is_standard_input number gap text false one two =
    let same = reading-one one.2.reading two.2.reading one.2.reads two.2.reads in
    let said : one.0 ≡ two.0 =
    one.2.is ∙ ap (λ (r : Reading). said_of (listed_in gap r.is_escaped r.shape) number
    is_standard_input) same ∙ sym two.2.is in (
      one.1 ∙ ap (λ z. z ∷ []) said ∙ sym two.1,
      one.2.leaves ∙ ap (λ (r : Reading). gap_after gap r.shape) same ∙ sym two.2.leaves,
    )

-- and so do lines
pub lines-one : (asked : Option Algorithm) (is_standard_input : Bool) (number : ℕ) (gap : Gap)
    (lines : List (List ℕ)) (s t : List Said) (a b : Gap)
    → LinesSay asked is_standard_input number gap lines s a
    → LinesSay asked is_standard_input number gap lines t b → (s ≡ t) × (a ≡ b)
unfolding LinesSay
lines-one asked is_standard_input number gap [] s t a b one two =
    (one.0 ∙ sym two.0, one.1 ∙ sym two.1)
lines-one asked is_standard_input number gap (line ∷ lines) s t a b one two =
    let first = says-one asked is_standard_input number gap (without_return line) _ one.3.is
    two.3.is in
    let rest = lines-one asked is_standard_input (number + 1) two.2 lines one.1 two.1 a b
    (subst (λ g. LinesSay asked is_standard_input (number + 1) g lines one.1 a) first.1 one.4)
    two.4 in (
      one.5 ∙ ap (λ l. l ++ one.1) first.0 ∙ ap (λ l. two.0 ++ l) rest.0 ∙ sym two.5,
      rest.1,
    )

module _ {asked : Option Algorithm} {is_standard_input : Bool} {start : ℕ} {first : Gap}
    {text : List ℕ} {number : ℕ} {gap : Gap} {front : List Said} {rest : List ℕ}
    (so_far : IsSaidTo asked is_standard_input start first text number gap front rest) where
  -- one more line is said
  pub said-next : {line behind : List ℕ} → IsFirstCut 10 rest line behind
      → {new : List Said} {after : Gap}
      → IsAppended asked is_standard_input number gap after line front new
      → IsSaidTo asked is_standard_input start first text (number + 1) after new behind
  unfolding LinesSay
  said-next {line} {behind} cut {new} {after} more = record {
    joins = λ said last says.
        let whole : LinesSay asked is_standard_input number gap (lines_in rest) (more.said ++ said)
        last = rw (lines_in-cut cut) (more.said, said, after, more.says, says, refl) in
        let all = so_far.joins (more.said ++ said) last whole in
        rw (more.is, append_assoc) all;
  }

  -- the last line is
  pub said-last : IsWithout 10 rest → {new : List Said} {after : Gap}
      → IsAppended asked is_standard_input number gap after rest front new
      → LinesSay asked is_standard_input start first (lines_in text) new after
  unfolding LinesSay
  said-last none {new} {after} more =
      let whole : LinesSay asked is_standard_input number gap (lines_in rest) more.said after =
      rw (lines_in-whole rest none)
      (more.said, [], after, more.says, (refl, refl), sym (append-nil more.said)) in
      subst (λ l. LinesSay asked is_standard_input start first (lines_in text) l after)
      (sym more.is) (so_far.joins more.said after whole)
