-- SPDX-License-Identifier: ISC
-- Lists that are written read back.
use Rattle.std.proofs.Common.{◌≡◌, ℕ, ◌+◌, ◌-◌, eqb, Bool, true, false, not, ◌&&◌, codes}
use Rattle.std.proofs.Common.{List, [], ◌∷◌, ◌++◌, length, map, drop, get_or, ◌⊎◌, Option, Some}
use Rattle.std.proofs.Common.{None, refl, sym, ap, ◌∙◌, inl, inr, append_assoc, arith}
use Rattle.std.proofs.lemmas.Bool.{false_from_ne_true, not-true, or_from}
use Rattle.std.proofs.lemmas.Bool.{ne_eqb, or_parts, true≢false}
use Rattle.std.proofs.lemmas.List.Elements.{All-drop, All-head, All-same, All-tail, All-weaker}
use Rattle.std.proofs.lemmas.List.Splits.{slice_split_at}
use Rattle.std.proofs.lemmas.List.Sums.{AllPass-from_list_all}
use Rattle.std.proofs.lemmas.Slice.Eq.{bytes_eq-Decides}
use Rattle.std.specs.List.{All, Contains, flat_map}
use Rattle.std.specs.Option.{option_or}
use Rattle.std.specs.Str.{bytes_eq}
use Rattle.hex.specs.Hex.{encode_lower}
use Rattle.ring.specs.declared.digest.algorithm.Algorithm.{Algorithm}
use Rattle.ring_sums.specs.Entry.{Listed, algorithm_of_count, algorithms_read}
use Rattle.ring_sums.specs.List.{CanReadBack, LineSays, LinesSay, is_passed_over, line_of, lines_in}
use Rattle.ring_sums.specs.List.{lists, said_of, without_return}
use Rattle.ring_sums.specs.Names.{needs_escape}
use Rattle.ring_sums.specs.declared.entry.Gap.{Gap}
use Rattle.ring_sums.specs.declared.entry.Gap.TheVariants.{One, Two}
use Rattle.ring_sums.proofs.LineParts.{slash}
use Rattle.ring_sums.proofs.Lists.{empty-says, said-listed}
use Rattle.ring_sums.proofs.TaggedForm.{among-all}
use Rattle.ring_sums.proofs.WrittenLines.{IsText, clean-append, is_clean, is_end, line-text}
use Rattle.ring_sums.proofs.WrittenLines.{plain-text, shown, tagged-text, text-reads, text_of}

-- ---- one line

clean-slash : (is_escaped : Bool) → is_clean (slash is_escaped) ≡ true
clean-slash true = refl
clean-slash false = refl

-- a clean line has no carriage return to lose
without_return-clean : (text : List ℕ) → is_clean text ≡ true → without_return text ≡ text
unfolding without_return
without_return-clean text clean =
    let P : ℕ → Type 0 = λ byte. not (is_end byte) ≡ true in
    let end = drop (length text - 1) text in
    let kept : bytes_eq end (13 ∷ []) ≡ false = false_from_ne_true _ (λ is.
    let same = (bytes_eq-Decides end (13 ∷ [])).0 is in
    let ends = All-drop P (length text - 1) text
    (AllPass-from_list_all (λ byte. not (is_end byte)) text clean) in
    let last = All-head P 13 [] (All-same P (13 ∷ []) end (sym same) ends) in
    true≢false (sym last)) in
    rw kept

-- a text that begins neither so nor with a zero byte is read
read-text : (is_escaped : Bool) (text : List ℕ) → eqb (get_or text 0 0) 0 ≡ false
    → eqb (get_or text 0 0) 35 ≡ false → is_passed_over (slash is_escaped ++ text) ≡ false
unfolding is_passed_over
read-text true text some other =
    or_from (eqb (length (92 ∷ text)) 0) false (ne_eqb (length (92 ∷ text)) 0 (λ h. omega arith))
    refl
read-text false [] some other = absurd (true≢false some)
read-text false (first ∷ rest) some other =
    or_from (eqb (length (first ∷ rest)) 0) (eqb first 35)
    (ne_eqb (length (first ∷ rest)) 0 (λ h. omega arith)) other

-- a list on standard input has no line for that
itself : (name : List ℕ) (is_standard_input : Bool)
    → (is_standard_input ≡ true → name ≡ codes "-" → ⊥)
    → (is_standard_input && bytes_eq name (codes "-")) ≡ false
itself name true other =
    false_from_ne_true _ (λ is. other refl ((bytes_eq-Decides name (codes "-")).0 is))
itself name false other = refl

module _ (asked : Option Algorithm) (is_standard_input is_tagged : Bool)
    (is_binary : Option Bool) where
  module _ {gap after : Gap} (listed : Listed)
      (is : IsText asked gap listed after (text_of is_tagged is_binary listed))
      (other : is_standard_input ≡ true → listed.name ≡ codes "-" → ⊥) where
    abbrev line : List ℕ
    line = slash (needs_escape listed.name) ++ text_of is_tagged is_binary listed

    clean : is_clean line ≡ true
    clean =
        clean-append (slash (needs_escape listed.name)) (text_of is_tagged is_binary listed)
        (clean-slash (needs_escape listed.name)) is.clean

    says : (number : ℕ) → LineSays asked is_standard_input number gap line (lists listed ∷ []) after
    says number =
        let reads = text-reads is line refl in
        let read = read-text (needs_escape listed.name) (text_of is_tagged is_binary listed)
        (is.starts 0 refl) (is.starts 35 refl) in
        record {
          is = rw (without_return-clean line clean, read) (
            lists listed,
            refl,
            record {
              reading = reads.reading;
              reads = reads.is;
              is = said-listed listed number is_standard_input
                  (itself listed.name is_standard_input other)
                  ∙ ap (λ o. said_of o number is_standard_input) (sym reads.lists);
              leaves = sym reads.leaves;
            },
          );
        }

    split : (rest : List ℕ)
        → lines_in (line_of is_tagged is_binary listed ++ rest) ≡ line ∷ lines_in rest
    split rest =
        ap (λ z. lines_in (z ++ rest)) (line-text is_tagged is_binary listed)
        ∙ ap lines_in (append_assoc line (10 ∷ []) rest)
        ∙ slice_split_at (λ byte. eqb byte 10) line 10 rest
        (All-weaker (λ b. not (is_end b) ≡ true) (λ b. eqb b 10 ≡ false)
        (λ b h. (or_parts (eqb b 10) (eqb b 13) (not-true (is_end b) h)).0) line
        (AllPass-from_list_all (λ b. not (is_end b)) line clean)) refl

-- ---- both styles

-- the text of a line, and a gap behind it with which the next one reads back
record IsNext (asked : Option Algorithm) (gap : Gap) (listed : Listed) (text : List ℕ)
    : Type 0 where
  after : Gap
  free : after ≡ One → ⊥
  is : IsText asked gap listed after text

two-free : Two ≡ One → ⊥
two-free h = cc

asked-for : (asked : Option Algorithm) (a : Algorithm) {P : Type 0}
    → (asked ≡ Some a) ⊎ ((asked ≡ None) × P) → Contains (algorithms_read asked) a
asked-for asked a (inl is) = rw is (0, omega arith, refl)
asked-for asked a (inr is) = rw is.0 (among-all a.id)

module _ (asked : Option Algorithm) (is_standard_input : Bool) (is_binary : Option Bool) where
  next : (is_tagged : Bool) (gap : Gap) → (gap ≡ One → ⊥) → (listed : Listed)
      → CanReadBack asked is_standard_input is_tagged listed
      → IsNext asked gap listed (text_of is_tagged is_binary listed)
  next true gap free listed can = record {
    after = gap;
    free = free;
    is = tagged-text listed can.digest (asked-for asked listed.algorithm can.algorithm) is_binary
        gap;
  }
  next false gap free listed can =
      let by_count : option_or asked
      (algorithm_of_count (length (encode_lower listed.digest))) ≡ Some listed.algorithm =
      elim can.algorithm [
        | inl is ↦ rw is
        | inr is ↦ rw is.0 (shown listed can.digest (is.1 refl))
      ] in
      record {
        after = Two;
        free = two-free;
        is = plain-text listed can.digest by_count (can.name refl) is_binary gap free;
      }

  module _ (is_tagged : Bool) where
    abbrev Can : Listed → Type 0
    Can = CanReadBack asked is_standard_input is_tagged

    pub lists-back : (all : List Listed) → All Can all → (number : ℕ) (gap : Gap)
        → (gap ≡ One → ⊥) → (after : Gap)
        × LinesSay asked is_standard_input number gap
        (lines_in (flat_map (line_of is_tagged is_binary) all)) (map lists all) after
    unfolding LinesSay
    lists-back [] can number gap free =
        (gap, ([], [], gap, empty-says asked is_standard_input number gap, (refl, refl), refl))
    lists-back (listed ∷ all) can number gap free =
        let first = All-head Can listed all can in
        let n = next is_tagged gap free listed first in
        let more = lists-back all (All-tail Can listed all can) (number + 1) n.after n.free in
        let one = says asked is_standard_input is_tagged is_binary listed n.is first.other number
        in (
          more.0,
          rw (split asked is_standard_input is_tagged is_binary listed n.is first.other
              (flat_map (line_of is_tagged is_binary) all))
              (lists listed ∷ [], map lists all, n.after, one, more.1, refl),
        )
