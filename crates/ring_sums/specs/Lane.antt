-- SPDX-License-Identifier: ISC
-- Readers in lanes.
use Rattle.std.specs.Prelude.{◌≡◌, ℕ, Bool, List, [], ◌++◌, IfSome, IsFalse, IsNone, IsTrue, None}
use Rattle.std.specs.Prelude.{Option, drop, map, take}
use Rattle.std.specs.Io.KnownBytes.{Consumes, IsAtEnd}
use Rattle.std.specs.declared.io.Error.{Error}
use Rattle.ring.specs.Prelude.{StandsFor, context_algorithm}
use Rattle.ring.specs.declared.digest.algorithm.Algorithm.{Algorithm}
use Rattle.ring.specs.declared.digest.context.Context.{Context}
use Rattle.ring_sums.specs.Outcome.{IsFailure}
use Rattle.ring_sums.specs.declared.lane.Lane.{Lane}

-- the places of the readers
abbrev pub places_of : {R : Type 0} → List (Lane R) → List ℕ
places_of lanes = map (λ lane. lane.place) lanes

-- what was read and is not taken in
abbrev pub left_of : {R : Type 0} → Lane R → List ℕ
left_of lane = drop lane.from (take lane.len lane.room.items)

-- the first n bytes of it, and the rest
abbrev pub front_of : {R : Type 0} → ℕ → Lane R → List ℕ
front_of n lane = take n (left_of lane)

abbrev pub behind_of : {R : Type 0} → ℕ → Lane R → List ℕ
behind_of n lane = drop n (left_of lane)

-- the context stands for what a reader has given since it was `first`, but for the bytes `rest`
-- that came last
pub record HasTaken {R : Type 0} (remaining : R → Option (List ℕ)) (first now : R)
    (rest : List ℕ) (context : Context) : Type 0 where
  pub bytes : List ℕ
  pub stands : StandsFor context bytes
  pub read : Consumes (remaining first) (remaining now) (bytes ++ rest)

-- a lane and its context, of a reader that was `first`
pub record IsIn {R : Type 0} (remaining : R → Option (List ℕ)) (fails_with : R → Error → Bool)
    (a : Algorithm) (first : R) (rest : List ℕ) (lane : Lane R) (context : Context)
    : Type 0 where
  pub algorithm : context_algorithm context ≡ a
  pub same : fails_with lane.reader ≡ fails_with first
  pub failed : IfSome lane.failure (IsFailure fails_with lane.reader)
  pub taken : IsNone lane.failure → HasTaken remaining first lane.reader rest context
  pub end : IsNone lane.failure → IsTrue lane.has_ended → IsAtEnd (remaining lane.reader)

-- a lane that has read nothing
pub record IsFresh {R : Type 0} (place : ℕ) (reader : R) (lane : Lane R) : Type 0 where
  pub placed : lane.place ≡ place
  pub reads : lane.reader ≡ reader
  pub failure : lane.failure ≡ None
  pub goes_on : IsFalse lane.has_ended
  pub left : left_of lane ≡ []

-- a lane has read, if nothing was left
pub record IsRead {R : Type 0} (remaining : R → Option (List ℕ)) (fails_with : R → Error → Bool)
    (old new : Lane R) : Type 0 where
  pub place : new.place ≡ old.place
  pub same : fails_with new.reader ≡ fails_with old.reader
  pub failed : IfSome old.failure (IsFailure fails_with old.reader)
      → IfSome new.failure (IsFailure fails_with old.reader)
  pub failure : IsNone new.failure → IsNone old.failure
  pub bytes : IsNone new.failure → (all : Option (List ℕ)) (bytes : List ℕ)
      → Consumes all (remaining old.reader) (bytes ++ left_of old)
      → Consumes all (remaining new.reader) (bytes ++ left_of new)
  pub end : IsNone new.failure
      → (IsNone old.failure → IsTrue old.has_ended → IsAtEnd (remaining old.reader))
      → IsTrue new.has_ended → IsAtEnd (remaining new.reader)

-- n bytes more of a lane are taken in
pub record IsSkipped {R : Type 0} (n : ℕ) (old new : Lane R) : Type 0 where
  pub place : new.place ≡ old.place
  pub reader : new.reader ≡ old.reader
  pub failure : new.failure ≡ old.failure
  pub end : IsTrue new.has_ended → IsTrue old.has_ended
  pub left : left_of new ≡ behind_of n old
