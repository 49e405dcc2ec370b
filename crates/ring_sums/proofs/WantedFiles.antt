-- SPDX-License-Identifier: ISC
-- Files whose outcomes are to come, and those whose outcomes are given.
use Rattle.std.proofs.Common.{◌≡◌, ℕ, ◌<◌, ◌≤◌, Bool, List, [], ◌∷◌, ◌++◌, ◌∙◌, Option, None, Some}
use Rattle.std.proofs.Common.{ap, append_assoc, append-nil, arith, length, length-append, map, refl}
use Rattle.std.proofs.Common.{subst, sym}
use Rattle.std.specs.Prelude.{IsSomeAnd}
use Rattle.std.proofs.lemmas.List.{map_push, nil_from_length}
use Rattle.std.proofs.lemmas.List.Elements.{All-cons, All-head, All-nil, All-push, All-tail}
use Rattle.std.specs.List.{All}
use Rattle.std.specs.declared.io.Error.{Error}
use Rattle.ring.specs.declared.digest.algorithm.Algorithm.{Algorithm}
use Rattle.ring_sums.specs.Outcome.{IsOutcome}
use Rattle.ring_sums.specs.Outcomes.{AreDone, AreGathered, FileIsGiven, FilesToCome, IsNextOf}
use Rattle.ring_sums.specs.Outcomes.{IsOutcomeOf}
use Rattle.ring_sums.specs.Sums.{ReaderIsGiven, ReadersToCome}
use Rattle.ring_sums.specs.declared.outcome.Outcome.{Outcome}
use Rattle.ring_sums.specs.declared.outcomes.Outcomes.{Outcomes}
use Rattle.ring_sums.specs.declared.outcomes.Wanted.{Wanted}
use Rattle.ring_sums.specs.declared.sums.Sums.{Sums}

abbrev pub readers_of : {R : Type 0} → List (Wanted R) → List R
readers_of files = map (λ file. file.reader) files

-- the reader of the next file more
pub gathered-more : {R : Type 0} {a : Algorithm} {old new : List R}
    {waited waiting rest : List (Wanted R)} (next : Wanted R)
    → AreGathered a old new waited waiting → IsNextOf a waiting → waiting ≡ next ∷ rest
    → AreGathered a old (new ++ next.reader ∷ []) waited rest
gathered-more {a = a} {old} {rest = rest} next so is waits =
    record {
      files = so.files ++ next ∷ [];
      of = All-push (λ file. file.algorithm ≡ a) so.files next so.of (rw waits at is next);
      taken = so.taken ∙ ap (λ z. so.files ++ z) waits
          ∙ sym (append_assoc so.files (next ∷ []) rest);
      behind = ap (λ z. z ++ next.reader ∷ []) so.behind
          ∙ append_assoc old (readers_of so.files) (next.reader ∷ [])
          ∙ ap (λ z. old ++ z) (sym (map_push (λ file. file.reader) so.files next));
    }

-- the readers that are gathered behind the first are run
pub run-begun : {R : Type 0} {remaining : R → Option (List ℕ)} {fails_with : R → Error → Bool}
    {readers : List R} {waited : List (Wanted R)} {new : Outcomes R} (first : Wanted R)
    → AreGathered first.algorithm (first.reader ∷ []) readers waited new.waiting.items
    → ReadersToCome remaining fails_with first.algorithm readers new.run
    → FilesToCome remaining fails_with (first ∷ waited) new
    × (length new.waiting.items ≤ length waited)
run-begun {new = new} first so run = (
  record {
    algorithm = first.algorithm;
    first = first ∷ so.files;
    of = All-cons (λ file. file.algorithm ≡ first.algorithm) first so.files refl so.of;
    run = rw so.behind at run;
    whole = ap (λ z. first ∷ z) so.taken;
  },
  omega (arith, ap length so.taken, length-append so.files new.waiting.items),
)

module _ {R : Type 0} {remaining : R → Option (List ℕ)} {fails_with : R → Error → Bool}
    {a : Algorithm} where
  -- a run gives the outcome of its first file, if it has one
  pub run-gives : (new : Outcomes R) (outcome : Option Outcome) (first : List (Wanted R))
      → All (λ file. file.algorithm ≡ a) first → (outcome ≡ None → 0 < length first)
      → ReaderIsGiven remaining fails_with a (readers_of first) outcome new.run
      → FileIsGiven remaining fails_with (first ++ new.waiting.items) outcome new
  run-gives new outcome [] of some given = absurd (omega (arith, some given.is.0))
  run-gives new outcome (file ∷ first) of some given =
      let P : Wanted R → Type 0 = λ file. file.algorithm ≡ a in
      record {
        is = (
          subst (λ z. IsSomeAnd outcome (IsOutcome remaining fails_with z file.reader))
              (sym (All-head P file first of)) given.is.0,
          record {
            algorithm = a;
            first = first;
            of = All-tail P file first of;
            run = given.is.1;
            whole = refl;
          },
        );
      }

  -- where nothing waits no file is left behind it
  pub none-waits : {new : Outcomes R} → ReadersToCome remaining fails_with a [] new.run
      → [] ≡ new.waiting.items → FileIsGiven remaining fails_with [] None new
  none-waits run none =
      record {
        is = (
          refl,
          record { algorithm = a; first = []; of = All-nil _; run = run; whole = none },
        );
      }

  spent : {run : Sums R} (first waiting : List (Wanted R))
      → ReaderIsGiven remaining fails_with a (readers_of first) None run
      → (first ++ waiting ≡ waiting) × ReadersToCome remaining fails_with a [] run
  spent [] waiting given = (refl, given.is.1)
  spent (file ∷ first) waiting given = absurd given.is.0

-- a run that gives none has given all
pub run-spent : {R : Type 0} {remaining : R → Option (List ℕ)} {fails_with : R → Error → Bool}
    {files : List (Wanted R)} {old : Outcomes R} {run : Sums R}
    → (so : FilesToCome remaining fails_with files old)
    → ReaderIsGiven remaining fails_with so.algorithm (readers_of so.first) None run
    → (files ≡ old.waiting.items) × ReadersToCome remaining fails_with so.algorithm [] run
run-spent {old = old} so given =
    let all = spent so.first old.waiting.items given in (so.whole ∙ all.0, all.1)

-- a run has a file where fewer wait
pub some-first : {R : Type 0} {remaining : R → Option (List ℕ)} {fails_with : R → Error → Bool}
    {first : Wanted R} {waited : List (Wanted R)} {new : Outcomes R}
    → (so : FilesToCome remaining fails_with (first ∷ waited) new)
    → length new.waiting.items ≤ length waited → 0 < length so.first
some-first {new = new} so fewer =
    omega (arith, fewer, ap length so.whole, length-append so.first new.waiting.items)

none-left : {R : Type 0} {remaining : R → Option (List ℕ)} {fails_with : R → Error → Bool}
    {new : Outcomes R} (rest : List (Wanted R)) → FileIsGiven remaining fails_with rest None new
    → length rest ≡ 0
none-left [] given = refl
none-left (file ∷ rest) given = absurd given.is.0

module _ {R : Type 0} {remaining : R → Option (List ℕ)} {fails_with : R → Error → Bool}
    {wanted : List (Wanted R)} where
  -- one file more is done
  pub done-more : {new : Outcomes R} {After : List (Wanted R) → Type 0} (outcome : Outcome)
      (done rest : List (Wanted R)) → wanted ≡ done ++ rest
      → FileIsGiven remaining fails_with rest (Some outcome) new
      → ((file : Wanted R) → IsOutcomeOf remaining fails_with file outcome
      → After (done ++ file ∷ [])) → AreDone remaining fails_with wanted new After
  done-more outcome done [] whole given next = absurd (cc given.is.0)
  done-more outcome done (file ∷ rest) whole given next =
      record {
        done = done ++ file ∷ [];
        rest = rest;
        whole = whole ∙ sym (append_assoc done (file ∷ []) rest);
        to_come = given.is.1;
        is = next file given.is.0;
      }

  -- where there is no outcome all are
  pub done-none : {new : Outcomes R} (done rest : List (Wanted R)) → wanted ≡ done ++ rest
      → FileIsGiven remaining fails_with rest None new → length done ≡ length wanted
  done-none done rest whole given =
      let none = none-left rest given in
      omega (arith, none, ap length whole, length-append done rest)

-- all are done where there are as many
pub done-all : {R : Type 0} {wanted : List (Wanted R)} (done rest : List (Wanted R))
    → wanted ≡ done ++ rest → length done ≡ length wanted → done ≡ wanted
done-all done rest whole many =
    let none : rest ≡ [] = nil_from_length rest
    (omega (arith, many, ap length whole, length-append done rest)) in
    sym (whole ∙ ap (λ z. done ++ z) none ∙ append-nil done)
