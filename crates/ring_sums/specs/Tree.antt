-- SPDX-License-Identifier: ISC
-- The files that are found in directories and below them.
use Rattle.std.specs.Prelude.{◌≡◌, ◌≢◌, ◌==◌, ◌&&◌, ◌||◌, ◌⊎◌, ℕ, Bool, true, false, not, List, []}
use Rattle.std.specs.Prelude.{◌∷◌, ◌++◌, Option, Some, None, Result, Ok, Err, codes}
use Rattle.std.specs.Prelude.{if◌then◌else◌, map, string_bytes, IsPermutation, IsSorted}
use Rattle.std.specs.Cmp.Lexicographic.{slice_cmp}
use Rattle.std.specs.Ordering.{nat_cmp}
use Rattle.std.specs.List.{ends_with, flat_map, list_all, slice_split}
use Rattle.std.specs.Str.{IsUtf8, bytes_eq}
use Rattle.std.specs.declared.io.Error.{Error}
use Rattle.std.specs.declared.io.ErrorKind.TheVariants.{Interrupted}
use Rattle.std.specs.IoError.{error_kind}
use Rattle.ring_sums.specs.Event.{Event, Output, Operand, Look, Open, Read, Tell, TellError, Does}
use Rattle.ring_sums.specs.declared.steps.Fault.TheVariants as fault
use Rattle.ring_sums.specs.declared.steps.Found.{Found}
use Rattle.ring_sums.specs.declared.steps.Identity.{Identity}
use Rattle.ring_sums.specs.declared.steps.Kind.{Kind}
use Rattle.ring_sums.specs.declared.steps.Kind.TheVariants as kind
use Rattle.ring_sums.specs.declared.tree.Walk.{Walk}

-- a file is the output if both numbers are equal
abbrev pub is_output : (output : Option Identity) → Identity → Bool
is_output None file = false
is_output (Some output) file = output.device == file.device && output.inode == file.inode

-- a regular file is listed, unless it is the output
abbrev pub files_at : Option Identity → (path : List ℕ) → Kind → Identity → List (List ℕ)
files_at output path kind.File file = if is_output output file then [] else path ∷ []
files_at output path _ file = []

abbrev pub files_in : Option Identity → Event → List (List ℕ)
files_in output (Look path (Ok found)) = files_at output path found.kind found.identity
files_in output _ = []

-- a directory is to be read
abbrev pub directories_at : (path : List ℕ) → Kind → List (List ℕ)
directories_at path kind.Directory = path ∷ []
directories_at path _ = []

abbrev pub directories_in : Event → List (List ℕ)
directories_in (Look path (Ok found)) = directories_at path found.kind
directories_in _ = []

-- all is read unless an error is told, or a name that is not UTF-8
abbrev pub is_fine : Event → Bool
is_fine (TellError path error) = false
is_fine (Tell path fault.NotUtf8) = false
is_fine _ = true

-- what is told of a path in a directory
abbrev pub told_of_kind : (path : List ℕ) → Kind → List Event
told_of_kind path kind.Link = Tell path fault.Link ∷ []
told_of_kind path kind.Other = Tell path fault.NotRegular ∷ []
told_of_kind path _ = []

abbrev pub told_of : (path : List ℕ) → Result Found Error → List Event
told_of path (Ok found) = told_of_kind path found.kind
told_of path (Err error) = TellError path error ∷ []

-- a path in a directory is looked at, and told of if it is not taken
abbrev pub IsTaken : (path : List ℕ) → List Event → Type 0
IsTaken path events = (found : Result Found Error) × (events ≡ Look path found ∷ told_of path found)

-- the names of a directory, but for its own and its parent's
abbrev pub is_entry : List ℕ → Bool
is_entry name = not (bytes_eq name [] || bytes_eq name (codes ".") || bytes_eq name (codes ".."))

-- a name is taken, behind the directory's path
abbrev pub IsPathTaken : (is_entry : Bool) → (path : List ℕ) → List Event → Type 0
IsPathTaken false path events = events ≡ []
IsPathTaken true path events =
    (IsUtf8 path × IsTaken path events)
    ⊎ ((¬ IsUtf8 path) × (events ≡ Tell path fault.NotUtf8 ∷ []))

abbrev pub IsNameTaken : (directory name : List ℕ) → List Event → Type 0
IsNameTaken directory name events = IsPathTaken (is_entry name) (directory ++ name) events

-- the events are those of each, one after another
abbrev pub InTurn : {X : Type 0} → (X → List Event → Type 0) → List X → List Event → Type 0
InTurn P [] events = events ≡ []
InTurn P (x ∷ xs) events =
    (first : List Event) × (rest : List Event) × P x first × InTurn P xs rest
    × (events ≡ first ++ rest)

-- the names that zero bytes end
abbrev pub names_in : List ℕ → List (List ℕ)
names_in bytes = slice_split (λ byte. byte == 0) bytes

abbrev pub AreNamesTaken : (directory bytes : List ℕ) → List Event → Type 0
AreNamesTaken directory bytes events = InTurn (IsNameTaken directory) (names_in bytes) events

-- a directory's path, with a slash at its end
abbrev pub with_slash : List ℕ → List ℕ
with_slash directory =
    if ends_with (λ x y. x == y) directory (codes "/") then directory else directory ++ codes "/"

-- the names that a read gives are taken, and a read that was interrupted gives none
abbrev pub IsPartRead : (path : List ℕ) → Result (List ℕ) Error → List Event → Type 0
IsPartRead path (Ok names) events =
    (taken : List Event) × AreNamesTaken path names taken × (events ≡ Read (Ok names) ∷ taken)
IsPartRead path (Err error) events =
    (error_kind error ≡ Interrupted) × (events ≡ Read (Err error) ∷ [])

-- the last read of a directory is at the end of its names, or fails, and that is told
abbrev pub IsReadToEnd : (directory : List ℕ) → List Event → Type 0
IsReadToEnd directory events =
    (events ≡ Read (Ok []) ∷ [])
    ⊎ ((error : Error) × (error_kind error ≢ Interrupted)
    × (events ≡ Read (Err error) ∷ TellError directory error ∷ []))

abbrev pub IsReadOn : (goes_on : Bool) → (directory path : List ℕ) → List Event → Type 0
IsReadOn true directory path events =
    (read : Result (List ℕ) Error) × IsPartRead path read events
IsReadOn false directory path events = IsReadToEnd directory events

-- a directory is read to its end, or it is told why not
abbrev pub IsRead : (directory : List ℕ) → List Event → Type 0
IsRead directory events =
    ((error : Error) × (events ≡ Open (with_slash directory) (Some error)
    ∷ TellError directory error ∷ []))
    ⊎ ((reads : List (Result (List ℕ) Error)) × (parts : List Event) × (last : List Event)
    × InTurn (IsPartRead (with_slash directory)) reads parts × IsReadToEnd directory last
    × (events ≡ Open (with_slash directory) None ∷ parts ++ last))

abbrev pub IsFailed : (path : List ℕ) → Error → List Event → Type 0
IsFailed path error events = events ≡ TellError path error ∷ []

-- each directory that is found in a directory or below it is read, and the names are those of the
-- files, in the order of their bytes
pub record IsTreeFound (output : Option Identity) (directory : List ℕ) (events : List Event)
    (names : List (List ℕ)) : Type 0 where
  pub read : List (List ℕ)
  pub are : InTurn IsRead read events
  pub each : IsPermutation (directory ∷ flat_map directories_in events) read
  pub files : IsPermutation (flat_map (files_in output) events) names
  pub sorted : IsSorted (slice_cmp nat_cmp) names

-- nothing happens, and the name is listed
abbrev pub IsNamed : (name : List ℕ) → List Event → List (List ℕ) → Type 0
IsNamed name events names = (events ≡ []) × (names ≡ name ∷ [])

-- an operand that is a directory is walked, and any other is listed, unless it is the output
abbrev pub IsOfKind : (output : Option Identity) → (operand : List ℕ) → Kind → Identity
    → List Event → List (List ℕ) → Type 0
IsOfKind output operand kind.Directory file events names = IsTreeFound output operand events names
IsOfKind output operand _ file events names =
    (events ≡ []) × (names ≡ (if is_output output file then [] else operand ∷ []))

-- one that cannot be looked at is listed: its reader tells why
abbrev pub IsBehindLook : (output : Option Identity) → (operand : List ℕ) → Result Found Error
    → List Event → List (List ℕ) → Type 0
IsBehindLook output operand (Ok found) events names =
    IsOfKind output operand found.kind found.identity events names
IsBehindLook output operand (Err error) events names = IsNamed operand events names

-- an operand is looked at
abbrev pub IsLookedAt : (output : Option Identity) → (operand : List ℕ) → List Event
    → List (List ℕ) → Type 0
IsLookedAt output operand events names =
    (found : Result Found Error) × (rest : List Event)
    × IsBehindLook output operand found rest names × (events ≡ Operand operand found ∷ rest)

-- one that is no path is listed, too
abbrev pub IsOperandFound : (output : Option Identity) → (operand : List ℕ) → List Event
    → List (List ℕ) → Type 0
IsOperandFound output operand events names =
    (IsUtf8 operand × IsLookedAt output operand events names)
    ⊎ ((¬ IsUtf8 operand) × IsNamed operand events names)

-- the names of each operand, in the operands' order
pub record AreOperandsFound (output : Option Identity) (operands : List (List ℕ))
    (events : List Event) (names : List (List ℕ)) : Type 0 where
  pub found : List (List ℕ × List (List ℕ))
  pub each : map (λ one. one.0) found ≡ operands
  pub are : InTurn (λ one part. IsOperandFound output one.0 part one.1) found events
  pub listed : names ≡ flat_map (λ one. one.1) found

-- the output is standard output, if it is a regular file
abbrev pub output_of_kind : Kind → Identity → Option Identity
output_of_kind kind.File file = Some file
output_of_kind _ file = None

abbrev pub output_of : Result Found Error → Option Identity
output_of (Ok found) = output_of_kind found.kind found.identity
output_of (Err error) = None

-- standard output is looked at, and then each operand. All is whole unless an error is told, or a
-- name that is not UTF-8
pub record IsFound (operands : List (List ℕ)) (events : List Event) (names : List (List ℕ))
    (is_whole : Bool) : Type 0 where
  pub output : Result Found Error
  pub rest : List Event
  pub are : AreOperandsFound (output_of output) operands rest names
  pub first : events ≡ Output output ∷ rest
  pub whole : is_whole ≡ list_all is_fine events

-- the bytes of paths
abbrev pub names_of : {S : Type 0} → Walk S → List (List ℕ)
names_of walk = map (λ name. name.items) walk.names.items

abbrev pub paths_of : {S : Type 0} → Walk S → List (List ℕ)
paths_of walk = map (λ file. file.items) walk.files.items

abbrev pub waiting_of : {S : Type 0} → Walk S → List (List ℕ)
waiting_of walk = map string_bytes walk.waiting.items

-- with events of which this is so, the walk has the files and directories that they find besides,
-- and is whole if it was and they are fine
pub record Finds {S : Type 0} (log : S → Option (List Event)) (old new : Walk S)
    (P : List Event → Type 0) : Type 0 where
  pub events : List Event
  pub are : P events
  pub does : Does (log old.steps) (log new.steps) events
  pub output : new.output ≡ old.output
  pub names : new.names ≡ old.names
  pub files : paths_of new ≡ paths_of old ++ flat_map (files_in old.output) events
  pub waiting : waiting_of new ≡ waiting_of old ++ flat_map directories_in events
  pub whole : new.is_whole ≡ (old.is_whole && list_all is_fine events)

-- with events of which this is so, the walk has these names besides, and is whole if it was and
-- they are fine
pub record Names {S : Type 0} (log : S → Option (List Event)) (old new : Walk S)
    (P : List Event → List (List ℕ) → Type 0) : Type 0 where
  pub events : List Event
  pub added : List (List ℕ)
  pub are : P events added
  pub does : Does (log old.steps) (log new.steps) events
  pub output : new.output ≡ old.output
  pub names : names_of new ≡ names_of old ++ added
  pub whole : new.is_whole ≡ (old.is_whole && list_all is_fine events)

-- no directory is walked
pub record IsIdle {S : Type 0} (walk : Walk S) : Type 0 where
  pub files : walk.files.items ≡ []
  pub waiting : walk.waiting.items ≡ []
