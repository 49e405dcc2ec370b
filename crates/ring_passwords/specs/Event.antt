-- SPDX-License-Identifier: ISC
-- What is done with files, step by step.
use Rattle.std.specs.Prelude.{◌≡◌, ℕ, Bool, List, [], ◌∷◌, ◌++◌, Option, Some, None}
use Rattle.std.specs.Prelude.{Result, Ok, Err}
use Rattle.std.specs.declared.io.Error.{Error}
use Rattle.std.specs.declared.vec.Vec.{Vec}
use Rattle.ring_passwords.specs.declared.failure.Failure.{Failure}
use Rattle.ring_passwords.specs.declared.steps.Access.{Access}

-- a step, and whether it was done; where it gives a value, the value if it was
pub data Event (F : Type 0) : Type 0 where
  OpenFolder : (path : List ℕ) (folder : Option F) → Event F
  ListNames : (folder : List ℕ) (done : Bool) → Event F
  NextName : (name : Option (Option (List ℕ))) → Event F
  RemoveUnlocked : (name : List ℕ) (done : Bool) → Event F
  Random : (bytes : List ℕ) (done : Bool) → Event F
  Create : (path : List ℕ) (file : Option F) → Event F
  Lock : (file : F) (done : Bool) → Event F
  SetMode : (file : F) (mode : ℕ) (done : Bool) → Event F
  SetOwner : (file : F) (user : Option ℕ) (group : ℕ) (done : Bool) → Event F
  Write : (file : F) (bytes : List ℕ) (done : Bool) → Event F
  Look : (path : List ℕ) (found : Option (Option Access)) → Event F
  Sync : (file : F) (done : Bool) → Event F
  Rename : (old new : List ℕ) (done : Bool) → Event F
  Remove : (path : List ℕ) (done : Bool) → Event F
  ReadPassword : (password : Result (List ℕ) Failure) → Event F
  ReadStore : (path : List ℕ) (text : Result (List ℕ) Failure) → Event F
  LookForLinks : (path : List ℕ) (single : Result (Unit {0}) Failure) → Event F
  LockStore : (path : List ℕ) (done : Bool) → Event F
  ReadToReplace : (path : List ℕ) (text : Result (List ℕ) Failure) → Event F

-- the bytes that are read
abbrev pub bytes_read : {A : Type 0} → Result (Vec ℕ A) Failure → Result (List ℕ) Failure
bytes_read (Ok bytes) = Ok bytes.items
bytes_read (Err failed) = Err failed

-- the name that is read of a folder, if it can be
abbrev pub name_in : {N : Type 0} → (name : N → List ℕ) → Result N Error → Option (List ℕ)
name_in name (Ok entry) = Some (name entry)
name_in name (Err error) = None

-- the same where there may be none any more
abbrev pub name_read : {N : Type 0} → (name : N → List ℕ) → Option (Result N Error)
    → Option (Option (List ℕ))
name_read name (Some entry) = Some (name_in name entry)
name_read name None = None

-- what was done grows by these, where it is known
pub record Does {F : Type 0} (old new : Option (List (Event F))) (events : List (Event F))
    : Type 0 where
  pub known : (before : List (Event F)) → old ≡ Some before → new ≡ Some (before ++ events)

-- what was done grows by one
abbrev pub Notes : {F : Type 0} → Option (List (Event F)) → Option (List (Event F)) → Event F
    → Type 0
Notes old new event = Does old new (event ∷ [])

-- what was done grows by events of which this is so
pub record Did {F : Type 0} (old new : Option (List (Event F))) (P : List (Event F) → Type 0)
    : Type 0 where
  pub events : List (Event F)
  pub are : P events
  pub does : Does old new events
