-- SPDX-License-Identifier: ISC
-- The sums of several readers, in their order.
use Rattle.std.specs.Prelude.{◌≡◌, ℕ, ◌+◌, Bool, List, [], ◌∷◌, ◌++◌, IsSomeAnd, Option, None}
use Rattle.std.specs.Prelude.{length}
use Rattle.std.specs.Vec.Iter.{into_iter_items}
use Rattle.std.specs.declared.io.Error.{Error}
use Rattle.ring.specs.declared.digest.algorithm.Algorithm.{Algorithm}
use Rattle.ring_sums.specs.Found.{AreFound}
use Rattle.ring_sums.specs.Lane.{left_of}
use Rattle.ring_sums.specs.Lanes.{AreIn}
use Rattle.ring_sums.specs.Outcome.{IsOutcome}
use Rattle.ring_sums.specs.declared.outcome.Outcome.{Outcome}
use Rattle.ring_sums.specs.declared.sums.Sums.{Sums}

-- the outcomes of these readers are to come, in their order
pub record ReadersToCome {R : Type 0} (remaining : R → Option (List ℕ))
    (fails_with : R → Error → Bool) (a : Algorithm) (readers : List R) (sums : Sums R)
    : Type 0 where
  pub given : List R
  pub begun : List R
  pub whole : readers ≡ begun ++ into_iter_items sums.waiting
  pub algorithm : sums.algorithm ≡ a
  pub total : sums.total ≡ length given + length readers
  pub count : length sums.found.items ≡ length begun
  pub reading : AreIn remaining fails_with a (given ++ readers) left_of sums.lanes.lanes.items
      sums.lanes.contexts.items
  pub found : AreFound remaining fails_with a (given ++ readers) (length given) sums.found.items
      sums.lanes.lanes.items

-- whichever were to come are still
abbrev pub KeepReaders : {R : Type 0} → (R → Option (List ℕ)) → (R → Error → Bool)
    → (old new : Sums R) → Type 0
KeepReaders {R} remaining fails_with old new =
    (a : Algorithm) (readers : List R) → ReadersToCome remaining fails_with a readers old
    → ReadersToCome remaining fails_with a readers new

-- the outcome is that of the first of those that were to come, and the rest still are; there is
-- none where none was
abbrev pub IsGiven : {X S : Type 0} → (IsOf : X → Outcome → Type 0)
    → (AreToCome : List X → S → Type 0) → List X → Option Outcome → (new : S) → Type 0
IsGiven IsOf AreToCome [] outcome new = (outcome ≡ None) × AreToCome [] new
IsGiven IsOf AreToCome (first ∷ rest) outcome new =
    IsSomeAnd outcome (IsOf first) × AreToCome rest new

pub record ReaderIsGiven {R : Type 0} (remaining : R → Option (List ℕ))
    (fails_with : R → Error → Bool) (a : Algorithm) (readers : List R) (outcome : Option Outcome)
    (new : Sums R) : Type 0 where
  pub is : IsGiven (IsOutcome remaining fails_with a) (ReadersToCome remaining fails_with a) readers
      outcome new
