-- SPDX-License-Identifier: ISC
-- Why a run ends without success, and the line that says so.
use Rattle.std.specs.Prelude.{◌≡◌, ◌⊎◌, ℕ, Bool, true, false, List, ◌++◌, Option, Some, None, codes}
use Rattle.std.specs.Prelude.{if◌then◌else◌}
use Rattle.std.specs.Option.{option_map}
use Rattle.std.specs.declared.io.Error.{Error}
use Rattle.ring_passwords.specs.Quoted.{quoted}
use Rattle.ring_passwords.specs.declared.failure.Ended.{Ended}
use Rattle.ring_passwords.specs.declared.failure.Failure.{Failure}
use Rattle.ring_passwords.specs.declared.failure.Failure.TheVariants as failure
use Rattle.ring_passwords.specs.declared.failure.Step.{Step}
use Rattle.ring_passwords.specs.declared.failure.Step.TheVariants.{ReadPassword, ReadText, ReadFile}
use Rattle.ring_passwords.specs.declared.failure.Step.TheVariants.{Lock, Replace, SyncFolder}
use Rattle.ring_store.specs.declared.error.StoreError.{StoreError}
use Rattle.ring_store.specs.declared.error.StoreError.TheVariants as refused

-- the exit status: 1 where the name has no record, or it or the text is of another password, and
-- else 2
abbrev pub status_of : Failure → ℕ
status_of failure.WrongNameOrPassword = 1
status_of failure.NoSuchName = 1
status_of failure.WrongPassword = 1
status_of _ = 2

-- a failure of the file that the call names, or of a step with it
abbrev pub is_of_file : Failure → Bool
is_of_file failure.NoFile = true
is_of_file failure.NoFolder = true
is_of_file failure.NotAFile = true
is_of_file failure.Temporary = true
is_of_file failure.Linked = true
is_of_file failure.NotAStore = true
is_of_file failure.BadLock = true
is_of_file failure.InUse = true
is_of_file (failure.System ReadFile error) = true
is_of_file (failure.System Lock error) = true
is_of_file (failure.System Replace error) = true
is_of_file (failure.System SyncFolder error) = true
is_of_file _ = false

-- the line; what the system says of a step is its own
abbrev pub failure_text : Failure → Option (List ℕ)
failure_text failure.NoPassword = Some (codes "no password on standard input")
failure_text failure.NoText = Some (codes "no text on standard input")
failure_text failure.BadName = Some (codes "a name has 1 to 64 bytes")
failure_text failure.TooLong = Some (codes "the password is too long")
failure_text failure.NeedsPreparation =
    Some (codes "a password for PostgreSQL has to be ASCII: no SASLprep here")
failure_text failure.NotAText = Some (codes "not the text of a password")
failure_text failure.TooManyIterations = Some (codes "the text has too many iterations")
failure_text failure.WrongPassword = Some (codes "wrong password")
failure_text failure.WrongNameOrPassword = Some (codes "wrong name or password")
failure_text failure.NoSuchName = Some (codes "no such name")
failure_text failure.NoFile = Some (codes "no such file")
failure_text failure.NoFolder = Some (codes "no such folder")
failure_text failure.NotAFile = Some (codes "not a regular file")
failure_text failure.Temporary = Some (codes "the name is one of a temporary file")
failure_text failure.Linked = Some (codes "the file has another name, a hard link")
failure_text failure.NotAStore = Some (codes "not a password store")
failure_text failure.BadLock = Some (codes "its lock is not an empty regular file of this user")
failure_text failure.InUse = Some (codes "another process has locked the file")
failure_text failure.Memory = Some (codes "out of memory")
failure_text (failure.System step error) = None

-- the line on a file, if there is one: a failure of the file begins with its path
abbrev pub ended_on : {P : Type 0} → (bytes_of : P → List ℕ) → Option P → Failure
    → Option (List ℕ)
ended_on bytes_of None failed = failure_text failed
ended_on bytes_of (Some path) failed =
    if is_of_file failed
    then option_map (λ line. bytes_of path ++ codes ": " ++ line) (failure_text failed)
    else failure_text failed

abbrev pub ended_text : Ended → Option (List ℕ)
ended_text e = ended_on (λ path. quoted path.now) e.path e.failure.now

-- a store's refusal
abbrev pub failure_of : StoreError → Failure
failure_of refused.BadName = failure.BadName
failure_of refused.TooLong = failure.TooLong
failure_of refused.WrongUsernameOrPassword = failure.WrongNameOrPassword
failure_of refused.Memory = failure.Memory

-- the system refuses the step
abbrev pub IsOfSystem : Step → Failure → Type 0
IsOfSystem step failed = (error : Error) × (failed ≡ failure.System step error)

-- why no text is read
abbrev pub IsNoText : Failure → Type 0
IsNoText failed = (failed ≡ failure.NoText) ⊎ IsOfSystem ReadText failed

-- why no password is read
abbrev pub IsNoPassword : Failure → Type 0
IsNoPassword failed =
    (failed ≡ failure.NoPassword) ⊎ (failed ≡ failure.TooLong) ⊎ IsOfSystem ReadPassword failed

-- why a store's file is not read
abbrev pub IsNotRead : Failure → Type 0
IsNotRead failed = (failed ≡ failure.NoFile) ⊎ (failed ≡ failure.NoFolder)
    ⊎ (failed ≡ failure.NotAFile) ⊎ (failed ≡ failure.Temporary) ⊎ (failed ≡ failure.NotAStore)
    ⊎ IsOfSystem ReadFile failed

-- why a store's file is not read to be replaced
abbrev pub IsNotReplaceable : Failure → Type 0
IsNotReplaceable failed = (failed ≡ failure.Linked) ⊎ IsNotRead failed

-- why a store's file is not locked
abbrev pub IsNotLocked : Failure → Type 0
IsNotLocked failed = (failed ≡ failure.BadLock) ⊎ (failed ≡ failure.InUse)
    ⊎ (failed ≡ failure.Memory) ⊎ IsOfSystem Lock failed

-- why a text that is read is not tested
abbrev pub IsNoStored : Failure → Type 0
IsNoStored failed = (failed ≡ failure.NotAText) ⊎ (failed ≡ failure.TooManyIterations)

-- why a test of a password fails
abbrev pub IsNotRight : Failure → Type 0
IsNotRight failed = (failed ≡ failure.NeedsPreparation) ⊎ (failed ≡ failure.WrongPassword)
