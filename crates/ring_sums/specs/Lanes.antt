-- SPDX-License-Identifier: ISC
-- Readers that are read side by side.
use Rattle.std.specs.Prelude.{◌≡◌, ℕ, Bool, List, [], ◌∷◌, ◌++◌, Option, get_or, length}
use Rattle.std.specs.List.{AllZip}
use Rattle.std.specs.declared.io.Error.{Error}
use Rattle.ring.specs.declared.digest.algorithm.Algorithm.{Algorithm}
use Rattle.ring.specs.declared.digest.context.Context.{Context}
use Rattle.ring_sums.specs.Lane.{IsIn}
use Rattle.ring_sums.specs.declared.lane.Lane.{Lane}
use Rattle.ring_sums.specs.declared.lanes.Lanes.{Lanes}

-- a lane and its context, of the reader at its place
abbrev pub IsPlaced : {R : Type 0} → (R → Option (List ℕ)) → (R → Error → Bool) → Algorithm
    → (readers : List R) → (rest : Lane R → List ℕ) → Lane R → Context → Type 0
IsPlaced {R} remaining fails_with a readers rest lane context =
    (r : R) → IsIn remaining fails_with a (get_or readers lane.place r) (rest lane) lane context

-- each lane and its context, where `rest` is what the context has not taken in
pub record AreIn {R : Type 0} (remaining : R → Option (List ℕ)) (fails_with : R → Error → Bool)
    (a : Algorithm) (readers : List R) (rest : Lane R → List ℕ) (lanes : List (Lane R))
    (contexts : List Context) : Type 0 where
  pub each : AllZip (IsPlaced remaining fails_with a readers rest) lanes contexts

-- whatever readers the lanes were of, they are still, with another rest
abbrev pub GoOn : {R : Type 0} → (R → Option (List ℕ)) → (R → Error → Bool)
    → (before after : Lane R → List ℕ) → (old new : Lanes R) → Type 0
GoOn {R} remaining fails_with before after old new =
    (a : Algorithm) (readers : List R)
    → AreIn remaining fails_with a readers before old.lanes.items old.contexts.items
    → AreIn remaining fails_with a readers after new.lanes.items new.contexts.items

-- a lane more, of the reader at `place`
pub record IsBegun {R : Type 0} (place : ℕ) (old new : List (Lane R)) : Type 0 where
  pub lane : Lane R
  pub at : lane.place ≡ place
  pub lanes : new ≡ old ++ lane ∷ []

-- as many lanes, of the same readers
pub record KeepPlaces {R : Type 0} (old new : List (Lane R)) : Type 0 where
  pub count : length new ≡ length old
  pub each : (i : ℕ) (l : Lane R) → (get_or new i l).place ≡ (get_or old i l).place
