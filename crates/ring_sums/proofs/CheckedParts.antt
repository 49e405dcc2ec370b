-- SPDX-License-Identifier: ISC
-- Parts of a list that are checked, one after another.
use Rattle.std.proofs.Common.{◌≡◌, ℕ, ◌+◌, ◌-◌, ◌^◌, ◌<◌, ◌≤◌, List, [], ◌∷◌, ◌++◌, ◌∙◌, Option}
use Rattle.std.proofs.Common.{Bool, Some, ap, append-nil, append_assoc, arith, cond, length}
use Rattle.std.proofs.Common.{drop, length-append, map, min, refl, subst, sym, take}
use Rattle.std.specs.Prelude.{IsNone, is_none}
use Rattle.std.specs.Io.KnownBytes.{Consumes, IsAtEnd}
use Rattle.std.specs.declared.io.Error.{Error}
use Rattle.std.proofs.KnownBytes.{Consumes-nil, Consumes-trans}
use Rattle.std.proofs.lemmas.List.{length-map, map-append, nil_from_length, take-append-drop}
use Rattle.std.proofs.lemmas.List.Concat.{flat_map-append}
use Rattle.std.proofs.lemmas.List.Elements.{All-append, All-nil, filter_map-append}
use Rattle.std.proofs.lemmas.List.Sums.{count_by-le-length, sum_by-append}
use Rattle.std.specs.List.{AllZip}
use Rattle.ring_sums.specs.Check.{AreCounted, AreFilesOf, Finding, IsChecked, IsFound}
use Rattle.ring_sums.specs.Check.{ListIsChecked}
use Rattle.ring_sums.specs.Check.{TextIsChecked, entries_of, entry_in, said_of}
use Rattle.ring_sums.specs.Console.{AreWritten, HasWritten}
use Rattle.ring_sums.specs.List.{LinesSay, Said, lines_in, said_by}
use Rattle.ring_sums.specs.Outcomes.{AreDone, IsOutcomeOf}
use Rattle.ring_sums.specs.declared.check.Counts.{Counts}
use Rattle.ring_sums.specs.declared.console.Console.{Console}
use Rattle.ring_sums.specs.declared.entry.Entry.{Entry}
use Rattle.ring_sums.specs.declared.entry.Gap.{Gap}
use Rattle.ring_sums.specs.declared.entry.Verdict.{Verdict}
use Rattle.ring_sums.specs.declared.list.Line.{Line}
use Rattle.ring_sums.specs.declared.options.Options.{Options}
use Rattle.ring_sums.specs.declared.outcomes.Outcomes.{Outcomes}
use Rattle.ring_sums.specs.declared.outcomes.Wanted.{Wanted}
use Rattle.ring_sums.proofs.CheckedLines.{entries-few}
use Rattle.ring_sums.proofs.Listed.{apart-both, apart-none, written-more, written-none}
use Rattle.ring_sums.proofs.Lists.{lines_in-both, nothing-says, says-both, says-few}

zipped-both : {A B : Type 0} (R : A → B → Type 0) (xs : List A) (ys : List B) (more : List A)
    (others : List B) → AllZip R xs ys → AllZip R more others
    → AllZip R (xs ++ more) (ys ++ others)
zipped-both R [] [] more others one two = two
zipped-both R [] (y ∷ ys) more others one two = absurd one
zipped-both R (x ∷ xs) [] more others one two = absurd one
zipped-both R (x ∷ xs) (y ∷ ys) more others one two =
    (one.0, zipped-both R xs ys more others one.1 two)

-- what is counted of two parts, of which one is behind the other
pub record AreAdded (a b c : Counts) : Type 0 where
  pub counted : (founds more : List (Option Verdict)) → length (founds ++ more) < 2 ^ 64
      → AreCounted founds a → AreCounted more b → AreCounted (founds ++ more) c
  pub bad : c.bad_lines ≡ min (a.bad_lines + b.bad_lines) (2 ^ 64 - 1)

founds-few : (lines : List Line) (findings : List Finding)
    → map (λ f. f.entry) findings ≡ entries_of lines
    → length (map (λ (f : Finding). f.found) findings) ≤ length lines
founds-few lines findings same =
    omega (
      arith,
      length-map findings (λ (f : Finding). f.found),
      length-map findings (λ (f : Finding). f.entry),
      ap length same,
      entries-few lines,
    )

-- what is of the entries of some lines, and of others
paired-both : {X Z : Type 0} (f : X → Z) (g : Entry → Z) (files more : List X)
    (lines others : List Line) → map f files ≡ map g (entries_of lines)
    → map f more ≡ map g (entries_of others)
    → map f (files ++ more) ≡ map g (entries_of (lines ++ others))
paired-both f g files more lines others one two =
    map-append f files more ∙ ap (λ z. z ++ map f more) one
    ∙ ap (λ z. map g (entries_of lines) ++ z) two
    ∙ sym (map-append g (entries_of lines) (entries_of others))
    ∙ ap (map g) (sym (filter_map-append entry_in lines others))

module _ {S R W : Type 0} {remaining : S → Option (List ℕ)} {fails_with : S → Error → Bool}
    {contents : W → Option (List ℕ)} {options : Options} where
  -- lines are checked, and those behind them
  checked-both : {lines more : List Line} {done rest : List (Wanted S)} {a b c : Counts}
      {first second third : Console R W} → length (lines ++ more) < 2 ^ 64 → AreAdded a b c
      → IsChecked remaining fails_with contents options lines done a first second
      → IsChecked remaining fails_with contents options more rest b second third
      → IsChecked remaining fails_with contents options (lines ++ more) (done ++ rest) c first third
  checked-both {lines} {more} {done} {rest} {a} {b} {c} {first} {second} {third} few added one two =
      let f = one.findings in
      let g = two.findings in
      let entry : Finding → Entry = λ f. f.entry in
      let is_bad : Line → Bool = λ line. is_none (entry_in line) in
      let said : Finding → List ℕ = λ f. said_of options.amount f.entry.name.items f.found in
      let P : Finding → Type 0 = λ f. IsFound options f.entry.listed.items f.outcome f.found in
      let room : length (map (λ (f : Finding). f.found) f ++ map (λ (f : Finding). f.found) g)
      < 2 ^ 64 = omega (
        arith,
        few,
        length-append lines more,
        length-append (map (λ (f : Finding). f.found) f) (map (λ (f : Finding). f.found) g),
        founds-few lines f one.entries,
        founds-few more g two.entries,
      ) in
      record {
        findings = f ++ g;
        entries = map-append entry f g ∙ ap (λ z. z ++ map entry g) one.entries
            ∙ ap (λ z. entries_of lines ++ z) two.entries
            ∙ sym (filter_map-append entry_in lines more);
        read = subst (AllZip (IsOutcomeOf remaining fails_with) (done ++ rest))
            (sym (map-append (λ (f : Finding). f.outcome) f g))
            (zipped-both (IsOutcomeOf remaining fails_with) done
            (map (λ (f : Finding). f.outcome) f) rest (map (λ (f : Finding). f.outcome) g)
            one.read two.read);
        found = All-append P f g one.found two.found;
        said = subst (λ z. HasWritten contents z first third) (sym (flat_map-append said f g))
            (written-more one.said two.said);
        stops = subst (λ z. AreWritten contents z first third) (sym (map-append said f g))
            (apart-both one.stops two.stops);
        counted = subst (λ z. AreCounted z c)
            (sym (map-append (λ (f : Finding). f.found) f g))
            (added.counted (map (λ (f : Finding). f.found) f) (map (λ (f : Finding). f.found) g)
            room one.counted two.counted);
        bad = omega (
          arith,
          added.bad,
          one.bad,
          two.bad,
          few,
          sum_by-append (λ line. cond (is_bad line) 1 0) lines more,
          count_by-le-length is_bad (lines ++ more),
        );
      }

  -- no line is checked
  pub checked-none : {counts : Counts} {console : Console R W} → AreCounted [] counts
      → counts.bad_lines ≡ 0
      → IsChecked remaining fails_with contents options [] [] counts console console
  checked-none counted bad =
      let P : Finding → Type 0 = λ f. IsFound options f.entry.listed.items f.outcome f.found in
      record {
        findings = [];
        entries = refl;
        read = tt;
        found = All-nil P;
        said = written-none;
        stops = apart-none;
        counted = counted;
        bad = bad;
      }

-- the first lines of a part are checked
module _ {S R W : Type 0} {remaining : S → Option (List ℕ)} {fails_with : S → Error → Bool}
    {name : S → Option (List ℕ)} {contents : W → Option (List ℕ)} {options : Options}
    {is_standard_input : Bool} {number : ℕ} {gap after : Gap} {text : List ℕ} {counts : Counts}
    {old new : Console R W} where
  lines-checked : {left : Outcomes S} (lines : List Line) (files : List (Wanted S))
      → LinesSay options.algorithm is_standard_input number gap (lines_in text)
      (map said_by lines) after → AreFilesOf (entries_of lines) files
      → map (λ file. name file.reader) files
      ≡ map (λ entry. Some entry.name.items) (entries_of lines)
      → AreDone remaining fails_with files left (λ done. (count : ℕ)
      × IsChecked remaining fails_with contents options (take count lines) done counts old new
      × (IsNone new.failure → (take count lines ≡ lines) × (done ≡ files)))
      → TextIsChecked remaining fails_with name contents options is_standard_input number gap after
      text counts old new
  lines-checked lines files says of names so =
      let n = so.is.0 in
      let whole : take n lines ++ drop n lines ≡ lines = take-append-drop n lines in
      record {
        lines = take n lines;
        others = drop n lines;
        done = so.done;
        rest = so.rest;
        says = subst (λ (z : List Line). LinesSay options.algorithm is_standard_input number gap
            (lines_in text) (map said_by z) after) (sym whole) says;
        files = ap (map (λ (file : Wanted S). file.algorithm)) (sym so.whole) ∙ of
            ∙ ap (λ (z : List Line). map (λ (entry : Entry). entry.algorithm) (entries_of z))
            (sym whole);
        names = ap (map (λ (file : Wanted S). name file.reader)) (sym so.whole) ∙ names
            ∙ ap (λ (z : List Line). map (λ (entry : Entry). Some entry.name.items) (entries_of z))
            (sym whole);
        is = so.is.1;
        all = λ none. (
          nil_from_length (drop n lines) (omega (
            arith,
            ap length whole,
            length-append (take n lines) (drop n lines),
            ap length (so.is.2 none).0,
          )),
          nil_from_length so.rest (omega (
            arith,
            ap length so.whole,
            length-append so.done so.rest,
            ap length (so.is.2 none).1,
          )),
        );
      }

  -- the same of lines that are passed on
  pub part-checked : {left : Outcomes S} (lines passed later : List Line)
      (files : List (Wanted S)) → passed ≡ lines → later ≡ lines
      → LinesSay options.algorithm is_standard_input number gap (lines_in text)
      (map said_by lines) after → AreFilesOf (entries_of passed) files
      → map (λ file. name file.reader) files
      ≡ map (λ entry. Some entry.name.items) (entries_of passed)
      → (AreFilesOf (entries_of later) files
      → AreDone remaining fails_with files left (λ done. (count : ℕ)
      × IsChecked remaining fails_with contents options (take count later) done counts old new
      × (IsNone new.failure → (take count later ≡ later) × (done ≡ files))))
      → TextIsChecked remaining fails_with name contents options is_standard_input number gap after
      text counts old new
  part-checked lines passed later files one two says of names so =
      let same = one ∙ sym two in
      let are : AreFilesOf (entries_of later) files =
      subst (λ (z : List Line). AreFilesOf (entries_of z) files) same of in
      lines-checked later files
      (subst (λ (z : List Line). LinesSay options.algorithm is_standard_input number gap
      (lines_in text) (map said_by z) after) (sym two) says) are
      (subst (λ (z : List Line). map (λ (file : Wanted S). name file.reader) files
      ≡ map (λ (entry : Entry). Some entry.name.items) (entries_of z)) same names) (so are)

-- the first parts of a list are checked, which have so many lines
pub record IsCheckedTo {S R W : Type 0} (remaining : S → Option (List ℕ))
    (fails_with : S → Error → Bool) (name : S → Option (List ℕ)) (contents : W → Option (List ℕ))
    (options : Options) (is_standard_input : Bool) (list left : Option (List ℕ)) (number : ℕ)
    (first gap : Gap) (counts : Counts) (old new : Console R W) : Type 0 where
  pub front : List ℕ
  pub lines : List Line
  pub done : List (Wanted S)
  pub read : Consumes list left front
  pub joins : (text : List ℕ) (said : List Said) (after : Gap)
      → LinesSay options.algorithm is_standard_input (number + 1) gap (lines_in text) said after
      → LinesSay options.algorithm is_standard_input 1 first (lines_in (front ++ text))
      (map said_by lines ++ said) after
  pub few : length lines ≤ number
  pub files : AreFilesOf (entries_of lines) done
  pub names : map (λ file. name file.reader) done
      ≡ map (λ entry. Some entry.name.items) (entries_of lines)
  pub is : IsChecked remaining fails_with contents options lines done counts old new

module _ {S R W : Type 0} {remaining : S → Option (List ℕ)} {fails_with : S → Error → Bool}
    {name : S → Option (List ℕ)} {contents : W → Option (List ℕ)} {options : Options}
    {is_standard_input : Bool} {list : Option (List ℕ)} {first : Gap} {old : Console R W} where
  pub to-none : {counts : Counts} → AreCounted [] counts → counts.bad_lines ≡ 0
      → IsCheckedTo remaining fails_with name contents options is_standard_input list list 0 first
      first counts old old
  to-none counted bad =
      record {
        front = [];
        lines = [];
        done = [];
        read = Consumes-nil list;
        joins = λ text said after says. says;
        few = omega arith;
        files = refl;
        names = refl;
        is = checked-none counted bad;
      }

  module _ {left : Option (List ℕ)} {number : ℕ} {gap : Gap} {a : Counts} {mid : Console R W}
      (so : IsCheckedTo remaining fails_with name contents options is_standard_input list left
      number first gap a old mid) where
    -- no part more is checked
    pub to-stop : {error : Error}
        → ListIsChecked remaining fails_with name contents options is_standard_input list
        (Some error) first gap a old mid
    to-stop = record {
      text = so.front ++ [];
      left = left;
      read = subst (Consumes list left) (sym (append-nil so.front)) so.read;
      end = λ none. absurd (cc none);
      is = record {
        lines = so.lines;
        others = [];
        done = so.done;
        rest = [];
        says = subst (λ (z : List Said).
            LinesSay options.algorithm is_standard_input 1 first (lines_in (so.front ++ [])) z gap)
            (append-nil (map said_by so.lines) ∙ ap (map said_by) (sym (append-nil so.lines)))
            (so.joins [] [] gap
            (nothing-says options.algorithm is_standard_input (number + 1) gap));
        files = rw (append-nil so.lines, append-nil so.done) so.files;
        names = rw (append-nil so.lines, append-nil so.done) so.names;
        is = so.is;
        all = λ none. (refl, refl);
      };
    }

    module _ {text : List ℕ} {after : Gap} {b c : Counts} {new : Console R W}
        (t : TextIsChecked remaining fails_with name contents options is_standard_input
        (number + 1) gap after text b mid new) (added : AreAdded a b c)
        (room : number + length (lines_in text) < 2 ^ 64) where
      part-few : length (t.lines ++ t.others) ≤ length (lines_in text)
      part-few =
          omega (
            arith,
            length-map (t.lines ++ t.others) said_by,
            says-few options.algorithm is_standard_input (number + 1) gap after (lines_in text)
                (map said_by (t.lines ++ t.others)) t.says,
          )

      both-few : length (so.lines ++ t.lines) ≤ number + length (lines_in text)
      both-few =
          omega (
            arith,
            part-few,
            so.few,
            length-append so.lines t.lines,
            length-append t.lines t.others,
          )

      both-are : IsChecked remaining fails_with contents options (so.lines ++ t.lines)
          (so.done ++ t.done) c old new
      both-are = checked-both (omega (arith, both-few, room)) added so.is t.is

      -- the part is the last that is checked
      pub to-list : {failure : Option Error} (rest : Option (List ℕ)) → Consumes left rest text
          → (IsNone failure → IsNone new.failure → IsAtEnd rest)
          → ListIsChecked remaining fails_with name contents options is_standard_input list failure
          first after c old new
      to-list rest given end =
          let lines = append_assoc so.lines t.lines t.others in
          let files = append_assoc so.done t.done t.rest in
          record {
            text = so.front ++ text;
            left = rest;
            read = Consumes-trans list left rest so.front text so.read given;
            end = end;
            is = record {
              lines = so.lines ++ t.lines;
              others = t.others;
              done = so.done ++ t.done;
              rest = t.rest;
              says = subst (λ (z : List Said). LinesSay options.algorithm is_standard_input 1 first
                  (lines_in (so.front ++ text)) z after)
                  (sym (map-append said_by so.lines (t.lines ++ t.others))
                  ∙ ap (map said_by) (sym lines))
                  (so.joins text (map said_by (t.lines ++ t.others)) after t.says);
              files = ap (map (λ (file : Wanted S). file.algorithm)) files
                  ∙ paired-both (λ (file : Wanted S). file.algorithm)
                  (λ (entry : Entry). entry.algorithm)
                  so.done (t.done ++ t.rest) so.lines (t.lines ++ t.others) so.files t.files
                  ∙ ap (λ (z : List Line). map (λ (entry : Entry). entry.algorithm) (entries_of z))
                  (sym lines);
              names = ap (map (λ (file : Wanted S). name file.reader)) files
                  ∙ paired-both (λ (file : Wanted S). name file.reader)
                  (λ (entry : Entry). Some entry.name.items) so.done (t.done ++ t.rest) so.lines
                  (t.lines ++ t.others) so.names t.names
                  ∙ ap (λ (z : List Line). map (λ entry. Some entry.name.items) (entries_of z))
                  (sym lines);
              is = both-are;
              all = t.all;
            };
          }

      -- another is behind it
      pub to-more : {rest : Option (List ℕ)} {next : ℕ} → IsNone new.failure
          → Consumes left rest (text ++ 10 ∷ []) → next ≡ number + length (lines_in text)
          → IsCheckedTo remaining fails_with name contents options is_standard_input list rest next
          first after c old new
      to-more {rest} {next} none given counted =
          let all = t.all none in
          let lines : t.lines ++ t.others ≡ t.lines =
          ap (λ z. t.lines ++ z) all.0 ∙ append-nil t.lines in
          let files : t.done ++ t.rest ≡ t.done =
          ap (λ z. t.done ++ z) all.1 ∙ append-nil t.done in
          let Says : ℕ → Gap → List (List ℕ) → List Said → Gap → Type 0 =
          LinesSay options.algorithm is_standard_input in
          record {
            front = so.front ++ (text ++ 10 ∷ []);
            lines = so.lines ++ t.lines;
            done = so.done ++ t.done;
            read = Consumes-trans list left rest so.front (text ++ 10 ∷ []) so.read given;
            joins = λ behind said last says.
                let further : next + 1 ≡ (number + 1) + length (lines_in text) =
                omega (arith, counted) in
                let two = says-both options.algorithm is_standard_input (number + 1) gap after last
                (lines_in text) (lines_in behind) (map said_by (t.lines ++ t.others)) said t.says
                (subst (λ (n : ℕ). Says n after (lines_in behind) said last) further says) in
                let whole = so.joins (text ++ 10 ∷ behind)
                (map said_by (t.lines ++ t.others) ++ said)
                last (subst (λ (z : List (List ℕ)). Says (number + 1) gap z
                (map said_by (t.lines ++ t.others) ++ said) last)
                (sym (lines_in-both text behind)) two) in
                let texts : so.front ++ (text ++ 10 ∷ behind)
                ≡ (so.front ++ (text ++ 10 ∷ [])) ++ behind =
                ap (λ z. so.front ++ z) (sym (append_assoc text (10 ∷ []) behind))
                ∙ sym (append_assoc so.front (text ++ 10 ∷ []) behind) in
                let saids : map said_by so.lines ++ (map said_by (t.lines ++ t.others) ++ said)
                ≡ map said_by (so.lines ++ t.lines) ++ said =
                ap (λ z. map said_by so.lines ++ (map said_by z ++ said)) lines
                ∙ sym (append_assoc (map said_by so.lines) (map said_by t.lines) said)
                ∙ ap (λ z. z ++ said) (sym (map-append said_by so.lines t.lines)) in
                subst (λ (z : List Said).
                Says 1 first (lines_in ((so.front ++ (text ++ 10 ∷ [])) ++ behind)) z last) saids
                (subst (λ (z : List ℕ). Says 1 first (lines_in z)
                (map said_by so.lines ++ (map said_by (t.lines ++ t.others) ++ said)) last) texts
                whole);
            few = omega (arith, both-few, counted);
            files = paired-both (λ (file : Wanted S). file.algorithm)
                (λ (entry : Entry). entry.algorithm)
                so.done t.done so.lines t.lines so.files
                (ap (map (λ (file : Wanted S). file.algorithm)) (sym files) ∙ t.files
                ∙ ap (λ (z : List Line). map (λ (entry : Entry). entry.algorithm) (entries_of z))
                lines);
            names = paired-both (λ (file : Wanted S). name file.reader)
                (λ (entry : Entry). Some entry.name.items) so.done t.done so.lines t.lines so.names
                (ap (map (λ (file : Wanted S). name file.reader)) (sym files) ∙ t.names
                ∙ ap (λ (z : List Line). map (λ entry. Some entry.name.items) (entries_of z))
                lines);
            is = both-are;
          }
