-- SPDX-License-Identifier: ISC
-- Outcomes of several files in their order.
use Rattle.std.specs.Prelude.{◌≡◌, ℕ, All, Bool, ◌++◌, List, Option, get_or, map}
use Rattle.std.specs.declared.io.Error.{Error}
use Rattle.ring.specs.declared.digest.algorithm.Algorithm.{Algorithm}
use Rattle.ring_sums.specs.Outcome.{IsOutcome}
use Rattle.ring_sums.specs.Sums.{IsGiven, ReadersToCome}
use Rattle.ring_sums.specs.declared.outcome.Outcome.{Outcome}
use Rattle.ring_sums.specs.declared.outcomes.Outcomes.{Outcomes}
use Rattle.ring_sums.specs.declared.outcomes.Wanted.{Wanted}

-- the outcome of a file
abbrev pub IsOutcomeOf : {R : Type 0} → (R → Option (List ℕ)) → (R → Error → Bool) → Wanted R
    → Outcome → Type 0
IsOutcomeOf remaining fails_with file outcome =
    IsOutcome remaining fails_with file.algorithm file.reader outcome

-- the next of those that wait is of this algorithm
abbrev pub IsNextOf : {R : Type 0} → Algorithm → (waiting : List (Wanted R)) → Type 0
IsNextOf a waiting = (w : Wanted _) → (get_or waiting 0 w).algorithm ≡ a

-- the readers of files of one algorithm are behind those before, and the files do not wait any more
pub record AreGathered {R : Type 0} (a : Algorithm) (old new : List R)
    (waited waiting : List (Wanted R)) : Type 0 where
  pub files : List (Wanted R)
  pub of : All (λ file. file.algorithm ≡ a) files
  pub taken : waited ≡ files ++ waiting
  pub behind : new ≡ old ++ map (λ file. file.reader) files

-- the outcomes of these files are to come, in their order: of the first in a run
pub record FilesToCome {R : Type 0} (remaining : R → Option (List ℕ))
    (fails_with : R → Error → Bool) (files : List (Wanted R)) (outcomes : Outcomes R)
    : Type 0 where
  pub algorithm : Algorithm
  pub first : List (Wanted R)
  pub of : All (λ file. file.algorithm ≡ algorithm) first
  pub run : ReadersToCome remaining fails_with algorithm (map (λ file. file.reader) first)
      outcomes.run
  pub whole : files ≡ first ++ outcomes.waiting.items

-- the first files are done, of which this holds, and the outcomes of the rest are to come
pub record AreDone {R : Type 0} (remaining : R → Option (List ℕ)) (fails_with : R → Error → Bool)
    (files : List (Wanted R)) (left : Outcomes R) (Holds : List (Wanted R) → Type 0) : Type 0 where
  pub done : List (Wanted R)
  pub rest : List (Wanted R)
  pub whole : files ≡ done ++ rest
  pub to_come : FilesToCome remaining fails_with rest left
  pub is : Holds done

pub record FileIsGiven {R : Type 0} (remaining : R → Option (List ℕ))
    (fails_with : R → Error → Bool) (files : List (Wanted R)) (outcome : Option Outcome)
    (new : Outcomes R) : Type 0 where
  pub is : IsGiven (IsOutcomeOf remaining fails_with) (FilesToCome remaining fails_with) files
      outcome new
