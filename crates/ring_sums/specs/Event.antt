-- SPDX-License-Identifier: ISC
-- What is found and told, step by step.
use Rattle.std.specs.Prelude.{◌≡◌, ℕ, List, [], ◌∷◌, ◌++◌, Option, Some}
use Rattle.std.specs.Prelude.{Result, Ok, Err, take}
use Rattle.std.specs.declared.io.Error.{Error}
use Rattle.ring_sums.specs.declared.steps.Fault.{Fault}
use Rattle.ring_sums.specs.declared.steps.Found.{Found}

-- a look and what it finds, a directory that is opened unless there is an error, names that are
-- read, what is wrong with a path
pub data Event : Type 0 where
  Output : (found : Result Found Error) → Event
  Operand : (path : List ℕ) (found : Result Found Error) → Event
  Look : (path : List ℕ) (found : Result Found Error) → Event
  Open : (path : List ℕ) (error : Option Error) → Event
  Read : (names : Result (List ℕ) Error) → Event
  Tell : (path : List ℕ) (fault : Fault) → Event
  TellError : (path : List ℕ) (error : Error) → Event

-- the bytes that a read gives
abbrev pub read_of : Result ℕ Error → (room : List ℕ) → Result (List ℕ) Error
read_of (Ok count) room = Ok (take count room)
read_of (Err error) room = Err error

-- what happened grows by these, where it is known
pub record Does (old new : Option (List Event)) (events : List Event) : Type 0 where
  pub known : (before : List Event) → old ≡ Some before → new ≡ Some (before ++ events)

-- it grows by one
abbrev pub Notes : Option (List Event) → Option (List Event) → Event → Type 0
Notes old new event = Does old new (event ∷ [])

-- it grows by events of which this is so
pub record Did (old new : Option (List Event)) (P : List Event → Type 0) : Type 0 where
  pub events : List Event
  pub are : P events
  pub does : Does old new events
