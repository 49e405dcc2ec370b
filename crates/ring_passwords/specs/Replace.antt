-- SPDX-License-Identifier: ISC
-- How a file is replaced, step by step.
use Rattle.std.specs.Prelude.{◌≡◌, ◌⊎◌, ℕ, Bool, true, false, List, [], ◌∷◌, ◌++◌, Option, Some}
use Rattle.std.specs.Prelude.{None, Result, Ok, Err, All, bit_and, length}
use Rattle.std.specs.List.{flat_map}
use Rattle.std.specs.Path.{path_file_name}
use Rattle.std.specs.declared.io.Error.{Error}
use Rattle.hex.specs.Hex.{IsBytes}
use Rattle.ring_passwords.specs.Event.{Event, OpenFolder, ListNames, NextName, RemoveUnlocked}
use Rattle.ring_passwords.specs.Event.{Random, Create, Lock}
use Rattle.ring_passwords.specs.Event.{SetMode, SetOwner, Write, Look, Sync, Rename, Remove}
use Rattle.ring_passwords.specs.Failure.{IsOfSystem}
use Rattle.ring_passwords.specs.Folder.{folder_in}
use Rattle.ring_passwords.specs.Temporary.{temporary_of}
use Rattle.ring_passwords.specs.declared.failure.Failure.{Failure}
use Rattle.ring_passwords.specs.declared.failure.Failure.TheVariants as failure
use Rattle.ring_passwords.specs.declared.failure.Step.TheVariants as step
use Rattle.ring_passwords.specs.declared.steps.Access.{Access}

-- the step was refused
abbrev pub IsRefused : {F : Type 0} → Event F → Type 0
IsRefused (OpenFolder path None) = Unit {0}
IsRefused (Random bytes false) = Unit {0}
IsRefused (Create path None) = Unit {0}
IsRefused (Lock file false) = Unit {0}
IsRefused (SetMode file mode false) = Unit {0}
IsRefused (Write file bytes false) = Unit {0}
IsRefused (Look path None) = Unit {0}
IsRefused (Sync file false) = Unit {0}
IsRefused (Rename old new false) = Unit {0}
IsRefused _ = ⊥

-- steps of one kind, of which the last was refused
pub record IsStopped {F : Type 0} (P : Event F → Type 0) (events : List (Event F)) : Type 0 where
  pub front : List (Event F)
  pub last : Event F
  pub done : All P front
  pub kind : P last
  pub refused : IsRefused last
  pub are : events ≡ front ++ last ∷ []

-- the name is that of a temporary file of the path's file
pub record IsLeftOver (path name : List ℕ) : Type 0 where
  pub file : List ℕ
  pub random : List ℕ
  pub len : length random ≡ 8
  pub bytes : IsBytes random
  pub beside : path_file_name path ≡ Some file
  pub has : name ≡ temporary_of file random

-- if the name is that of a temporary file of the path's file, that is removed unless a process has
-- locked it, and else nothing is done
abbrev pub IsLookedAt : {F : Type 0} → (path name : List ℕ) → List (Event F) → Type 0
IsLookedAt path name events =
    (IsLeftOver path name × (done : Bool) × (events ≡ RemoveUnlocked name done ∷ []))
    ⊎ ((¬ IsLeftOver path name) × (events ≡ []))

-- nothing is done with a name that cannot be read
abbrev pub IsReadLookedAt : {F : Type 0} → (path : List ℕ) → (name : Option (List ℕ))
    → List (Event F) → Type 0
IsReadLookedAt path (Some name) events = IsLookedAt path name events
IsReadLookedAt path None events = events ≡ []

-- a name is read and looked at
abbrev pub IsVisit : {F : Type 0} → (path : List ℕ) → List (Event F) → Type 0
IsVisit path events = (name : Option (List ℕ)) × (looked : List (Event _))
    × IsReadLookedAt path name looked × (events ≡ NextName (Some name) ∷ looked)

-- so many names of the folder are read, one after another
pub record AreVisited {F : Type 0} (path folder : List ℕ) (count : ℕ) (events : List (Event F))
    : Type 0 where
  pub visits : List (List (Event F))
  pub each : All (IsVisit path) visits
  pub len : length visits ≡ count
  pub are : events ≡ ListNames folder true ∷ flat_map (λ visit. visit) visits

-- all names of the folder are read, or as many as 64 bits count; or the folder gives none
abbrev pub IsSwept : {F : Type 0} → (path folder : List ℕ) → List (Event F) → Type 0
IsSwept path folder events =
    (events ≡ ListNames folder false ∷ [])
    ⊎ ((count : ℕ) × (visited : List (Event _)) × AreVisited path folder count visited
    × (events ≡ visited ++ NextName None ∷ []))
    ⊎ AreVisited path folder 18446744073709551615 events

-- a new file is made beside a path's file, with a name of 8 random bytes, once what was left there
-- is removed
pub record IsMade {F : Type 0} (path : List ℕ) (folder : F) (new_path : List ℕ) (new : F)
    (events : List (Event F)) : Type 0 where
  pub random : List ℕ
  pub swept : List (Event F)
  pub len : length random ≡ 8
  pub named : new_path ≡ temporary_of path random
  pub is_swept : IsSwept path (folder_in path) swept
  pub are : events ≡ (OpenFolder (folder_in path) (Some folder) ∷ swept)
      ++ Random random true ∷ Create new_path (Some new) ∷ []

-- a step before a new file is made, or one that makes none
abbrev pub IsBefore : {F : Type 0} → (path : List ℕ) → Event F → Type 0
IsBefore path (OpenFolder folder found) = Unit {0}
IsBefore path (ListNames folder done) = Unit {0}
IsBefore path (NextName name) = Unit {0}
IsBefore path (RemoveUnlocked name done) = IsLeftOver path name
IsBefore path (Random bytes done) = Unit {0}
IsBefore path (Create new_path None) = Unit {0}
IsBefore path _ = ⊥

-- a step's result as the program's, where the system refuses to replace the file
abbrev pub granted : {T : Type 0} → Result T Error → Result T Failure
granted (Ok value) = Ok value
granted (Err error) = Err (failure.System step.Replace error)

-- no new file is made, for want of memory or because a step was refused
abbrev pub IsNotMade : {F : Type 0} → (path : List ℕ) → Failure → List (Event F) → Type 0
IsNotMade path failed events =
    ((failed ≡ failure.Memory) × All (IsBefore path) events)
    ⊎ (IsOfSystem step.Replace failed × IsStopped (IsBefore path) events)

-- a new file gets the group of an old one, with its owner, or without where the system refuses that
abbrev pub IsOwnerGiven : {F : Type 0} → (new : F) → (old : Access) → (given : Bool)
    → List (Event F) → Type 0
IsOwnerGiven new old true events =
    (events ≡ SetOwner new (Some old.user) old.group true ∷ [])
    ⊎ (events ≡ SetOwner new (Some old.user) old.group false ∷ SetOwner new None old.group true
    ∷ [])
IsOwnerGiven new old false events =
    events ≡ SetOwner new (Some old.user) old.group false ∷ SetOwner new None old.group false ∷ []

-- with the group it gets the nine bits of the mode that say who reads, writes and runs the file
abbrev pub IsAccessGiven : {F : Type 0} → (new : F) → (old : Access) → List (Event F) → Type 0
IsAccessGiven new old events =
    IsOwnerGiven new old false events
    ⊎ ((owner : List (Event _)) × IsOwnerGiven new old true owner
    × (events ≡ owner ++ SetMode new (bit_and old.mode 0o777) true ∷ []))

-- with the group it is refused those bits
abbrev pub IsModeRefused : {F : Type 0} → (new : F) → (old : Access) → List (Event F) → Type 0
IsModeRefused new old events = (owner : List (Event _)) × IsOwnerGiven new old true owner
    × (events ≡ owner ++ SetMode new (bit_and old.mode 0o777) false ∷ [])

-- a new file gets what an old one has, if there is one
abbrev pub IsAccess : {F : Type 0} → (path : List ℕ) → (new : F) → List (Event F) → Type 0
IsAccess path new events =
    (events ≡ Look path (Some None) ∷ [])
    ⊎ ((old : Access) × (given : List (Event _)) × IsAccessGiven new old given
    × (events ≡ Look path (Some (Some old)) ∷ given))

-- it does not: the old one is not looked at, or the new one is refused the mode
abbrev pub IsNoAccess : {F : Type 0} → (path : List ℕ) → (new : F) → List (Event F) → Type 0
IsNoAccess path new events =
    (events ≡ Look path None ∷ [])
    ⊎ ((old : Access) × (given : List (Event _)) × IsModeRefused new old given
    × (events ≡ Look path (Some (Some old)) ∷ given))

-- a new file is locked and private, gets the text and what the old file has, is on the disk, and
-- takes the name
pub record IsPut {F : Type 0} (path new_path : List ℕ) (new : F) (text : List ℕ)
    (events : List (Event F)) : Type 0 where
  pub access : List (Event F)
  pub kept : IsAccess path new access
  pub are : events ≡ (Lock new true ∷ SetMode new 0o600 true ∷ Write new text true ∷ access)
      ++ Sync new true ∷ Rename new_path path true ∷ []

-- the same steps up to the first that is refused: a new file is not locked, or not private, or
-- does not get the text or what the old file has, or is not on the disk, or does not take the name
abbrev pub IsNotPut : {F : Type 0} → (path new_path : List ℕ) → (new : F) → (text : List ℕ)
    → List (Event F) → Type 0
IsNotPut path new_path new text events =
    (events ≡ Lock new false ∷ [])
    ⊎ (events ≡ Lock new true ∷ SetMode new 0o600 false ∷ [])
    ⊎ (events ≡ Lock new true ∷ SetMode new 0o600 true ∷ Write new text false ∷ [])
    ⊎ ((access : List (Event _)) × IsNoAccess path new access
    × (events ≡ Lock new true ∷ SetMode new 0o600 true ∷ Write new text true ∷ access))
    ⊎ ((access : List (Event _)) × IsAccess path new access
    × (events ≡ (Lock new true ∷ SetMode new 0o600 true ∷ Write new text true ∷ access)
    ++ Sync new false ∷ []))
    ⊎ ((access : List (Event _)) × IsAccess path new access
    × (events ≡ (Lock new true ∷ SetMode new 0o600 true ∷ Write new text true ∷ access)
    ++ Sync new true ∷ Rename new_path path false ∷ []))

-- a new file is made and takes the name, and then the folder is synced or not
pub record IsReplaced {F : Type 0} (path text : List ℕ) (synced : Bool) (events : List (Event F))
    : Type 0 where
  pub folder : F
  pub new_path : List ℕ
  pub new : F
  pub made : List (Event F)
  pub put : List (Event F)
  pub is_made : IsMade path folder new_path new made
  pub is_put : IsPut path new_path new text put
  pub are : events ≡ made ++ put ++ Sync folder synced ∷ []

-- a new file is made, does not take the name, and is removed
pub record IsUndone {F : Type 0} (path text : List ℕ) (events : List (Event F)) : Type 0 where
  pub folder : F
  pub new_path : List ℕ
  pub new : F
  pub made : List (Event F)
  pub tried : List (Event F)
  pub removed : Bool
  pub is_made : IsMade path folder new_path new made
  pub is_not_put : IsNotPut path new_path new text tried
  pub are : events ≡ made ++ tried ++ Remove new_path removed ∷ []

-- why, and after which steps, a file is not replaced, or not for certain
abbrev pub IsNotReplaced : {F : Type 0} → (path text : List ℕ) → Failure → List (Event F) → Type 0
IsNotReplaced path text failed events =
    IsNotMade path failed events
    ⊎ (IsOfSystem step.Replace failed × IsUndone path text events)
    ⊎ (IsOfSystem step.SyncFolder failed × IsReplaced path text false events)

-- the path is that of a temporary file of the path's file
abbrev pub IsNewPath : (path new_path : List ℕ) → Type 0
IsNewPath path new_path =
    (random : List ℕ) × (length random ≡ 8) × (new_path ≡ temporary_of path random)

-- a step that keeps the path's file: the new one, if any, is a temporary file and the only one that
-- is written to, no file takes the path, and only temporary files are removed
abbrev pub IsKeeping : {F : Type 0} → (path : List ℕ) → (new : Option F) → Event F → Type 0
IsKeeping path new (RemoveUnlocked name done) = IsLeftOver path name
IsKeeping path new (Create new_path (Some file)) = IsNewPath path new_path × (Some file ≡ new)
IsKeeping path new (SetMode file mode done) = Some file ≡ new
IsKeeping path new (SetOwner file user group done) = Some file ≡ new
IsKeeping path new (Write file bytes done) = Some file ≡ new
IsKeeping path new (Rename from to done) = done ≡ false
IsKeeping path new (Remove new_path done) = IsNewPath path new_path
IsKeeping path new _ = Unit {0}

-- the path's file stays as it is
abbrev pub IsKept : {F : Type 0} → (path : List ℕ) → List (Event F) → Type 0
IsKept path events = (new : Option _) × All (IsKeeping path new) events
