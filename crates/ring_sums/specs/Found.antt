-- SPDX-License-Identifier: ISC
-- Outcomes that are found before it is their turn to be given.
use Rattle.std.specs.Prelude.{◌≡◌, ◌≢◌, ℕ, ◌+◌, ◌<◌, Bool, Contains, IsNone, IsSomeAnd, List, []}
use Rattle.std.specs.Prelude.{◌∷◌, MatchOption, Option, None, Some, get_or, length, ⊤}
use Rattle.std.specs.declared.io.Error.{Error}
use Rattle.ring.specs.declared.digest.algorithm.Algorithm.{Algorithm}
use Rattle.ring_sums.specs.Lane.{places_of}
use Rattle.ring_sums.specs.Outcome.{IsOutcome}
use Rattle.ring_sums.specs.declared.lane.Lane.{Lane}
use Rattle.ring_sums.specs.declared.outcome.Outcome.{Outcome}
use Rattle.ring_sums.specs.declared.outcome.Outcome.TheVariants.{Failed}

-- of the readers from `place` on, each whose outcome is not found is read in a lane
pub record AreFound {R : Type 0} (remaining : R → Option (List ℕ)) (fails_with : R → Error → Bool)
    (a : Algorithm) (readers : List R) (place : ℕ) (found : List (Option Outcome))
    (lanes : List (Lane R)) : Type 0 where
  pub each : (k : ℕ) (r : R) (o : Option Outcome) → k < length found
      → MatchOption (get_or found k o) (Contains (places_of lanes) (place + k))
      (IsOutcome remaining fails_with a (get_or readers (place + k) r))

-- the outcome of the reader at `place` is among those of the readers from `given` on, if it is one
-- of theirs
pub record IsPut (given place : ℕ) (outcome : Outcome) (old new : List (Option Outcome))
    : Type 0 where
  pub count : length new ≡ length old
  pub put : (k : ℕ) (o : Option Outcome) → k < length old → given + k ≡ place
      → get_or new k o ≡ Some outcome
  pub others : (k : ℕ) (o : Option Outcome) → given + k ≢ place → get_or new k o ≡ get_or old k o

-- the outcome of a reader that is not read
abbrev pub IsFailed : Outcome → Type 0
IsFailed (Failed error) = ⊤
IsFailed outcome = ⊥

-- the first of the outcomes, which is a failure where it is not found
abbrev pub IsFirst : List (Option Outcome) → Option Outcome → Type 0
IsFirst [] outcome = IsNone outcome
IsFirst (Some first ∷ rest) outcome = outcome ≡ Some first
IsFirst (None ∷ rest) outcome = IsSomeAnd outcome IsFailed

-- the first of the outcomes can be given: it is found, or no lane is left to find it; where there
-- is none, no reader waits
abbrev pub IsReady : List (Option Outcome) → ℕ → ℕ → Type 0
IsReady [] lanes waiting = waiting ≡ 0
IsReady (Some first ∷ rest) lanes waiting = ⊤
IsReady (None ∷ rest) lanes waiting = lanes ≡ 0
