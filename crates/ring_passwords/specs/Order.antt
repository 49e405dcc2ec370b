-- SPDX-License-Identifier: ISC
-- In which order a store's file and the password are read.
use Rattle.std.specs.Prelude.{◌≡◌, ◌≢◌, ◌⊎◌, ◌↔◌, ℕ, Bool, true, false, List, [], ◌∷◌, ◌++◌}
use Rattle.std.specs.Prelude.{Option, Result, Ok, Err, IsErrAnd, length}
use Rattle.std.specs.declared.num.NonZeroU32.{NonZeroU32}
use Rattle.ring.specs.Cost.{Counts, raised}
use Rattle.ring_store.specs.Store.{admission, asked_iterations, knows, new_store, verdict}
use Rattle.ring_store.specs.Store.{verify_blocks, with_password, without}
use Rattle.ring_store.specs.declared.store.PasswordStore.{PasswordStore}
use Rattle.ring_store_text.specs.Text.{IsStore, text_of}
use Rattle.ring_passwords.specs.Change.{IsCountOfNew, IsNoStore, told, with_given}
use Rattle.ring_passwords.specs.Event.{Event, LockStore, LookForLinks, Random, ReadPassword}
use Rattle.ring_passwords.specs.Event.{ReadStore, ReadToReplace}
use Rattle.ring_passwords.specs.Failure.{IsNoPassword, IsNotLocked, IsNotRead, IsNotReplaceable}
use Rattle.ring_passwords.specs.Failure.{IsOfSystem}
use Rattle.ring_passwords.specs.Replace.{IsNotReplaced, IsReplaced}
use Rattle.ring_passwords.specs.declared.failure.Failure.{Failure}
use Rattle.ring_passwords.specs.declared.failure.Failure.TheVariants as failure
use Rattle.ring_passwords.specs.declared.failure.Step.TheVariants as step

-- the store's text is read
abbrev pub IsLoaded : {F Z : Type 0} → (path : List ℕ) → PasswordStore Z → List (Event F) → Type 0
IsLoaded path store events = IsStore store × (events ≡ ReadStore path (Ok (text_of store)) ∷ [])

-- no text is read, or one that gives no store
abbrev pub IsNotLoaded : {F : Type 0} → (path : List ℕ) → Failure → List (Event F) → Type 0
IsNotLoaded path failed events =
    (IsNotRead failed × (events ≡ ReadStore path (Err failed) ∷ []))
    ⊎ ((text : List ℕ) × IsNoStore text failed × (events ≡ ReadStore path (Ok text) ∷ []))

-- before the password is read, the name is refused or the file
abbrev pub IsNotSeen : {F : Type 0} → (path : List ℕ) → Failure → List (Event F) → Type 0
IsNotSeen path failed events =
    ((failed ≡ failure.BadName) × (events ≡ [])) ⊎ IsNotLoaded path failed events

-- a test of a password takes the blocks of a credential and a comparison of 32 bytes, also where
-- the name has no record; one of a name or password that is not admitted takes nothing
pub record IsCost {Z : Type 0} (store : PasswordStore Z) (name password : List ℕ)
    (before after : Counts) : Type 0 where
  pub admitted : admission name password ≡ Ok tt
      → after ≡ raised before (verify_blocks store name password) 32
  pub refused : admission name password ≢ Ok tt → after ≡ before

-- a password is tested against the store whose text is read after it, and not against the one that
-- was read before; a meter rises by that test
pub record IsTested {F : Type 0} (Z : Type 0) (path name : List ℕ) (start end : Counts)
    (r : Result (Unit {0}) Failure) (events : List (Event F)) : Type 0 where
  pub before : List ℕ
  pub password : List ℕ
  pub store : PasswordStore Z
  pub is : IsStore store
  pub answer : r ≡ told (verdict store name password)
  pub cost : IsCost store name password start end
  pub are : events ≡ ReadStore path (Ok before) ∷ ReadPassword (Ok password)
      ∷ ReadStore path (Ok (text_of store)) ∷ []

-- the password is not read, or the file is refused before it or after it
abbrev pub IsNotTested : {F : Type 0} → (path : List ℕ) → Failure → List (Event F) → Type 0
IsNotTested path failed events =
    IsNotSeen path failed events
    ⊎ (IsNoPassword failed × (before : List ℕ)
    × (events ≡ ReadStore path (Ok before) ∷ ReadPassword (Err failed) ∷ []))
    ⊎ ((before password : List ℕ) × (last : List (Event _)) × IsNotLoaded path failed last
    × (events ≡ ReadStore path (Ok before) ∷ ReadPassword (Ok password) ∷ last))

-- the password is tested, or it is told why not, and no meter rises
abbrev pub IsVerified : {F : Type 0} → (Z : Type 0) → (path name : List ℕ) → (start end : Counts)
    → Result (Unit {0}) Failure → List (Event F) → Type 0
IsVerified Z path name start end r events =
    IsTested Z path name start end r events
    ⊎ ((end ≡ start) × IsErrAnd r (λ failed. IsNotTested path failed events))

-- the first look, before the password is read: there is no file, or a store's that has no other
-- name
abbrev pub IsFirstLook : {F : Type 0} → (path : List ℕ) → (missing : Bool) → List (Event F)
    → Type 0
IsFirstLook path true events = events ≡ ReadStore path (Err failure.NoFile) ∷ []
IsFirstLook path false events = (text : List ℕ)
    × (events ≡ ReadStore path (Ok text) ∷ LookForLinks path (Ok tt) ∷ [])

-- a new store, where there is no file now and was none at the first look
pub record IsNew {F Z : Type 0} (path : List ℕ) (given : Option NonZeroU32) (missing : Bool)
    (store : PasswordStore Z) (events : List (Event F)) : Type 0 where
  pub salt : List ℕ
  pub iterations : NonZeroU32
  pub missed : missing ≡ true
  pub len : length salt ≡ 16
  pub count : IsCountOfNew given iterations
  pub is : store ≡ new_store salt iterations
  pub are : events ≡ ReadToReplace path (Err failure.NoFile) ∷ Random salt true ∷ []

-- the store that is changed: that of the text that is read under the lock, or a new one
abbrev pub IsTaken : {F Z : Type 0} → (path : List ℕ) → (given : Option NonZeroU32)
    → (missing : Bool) → PasswordStore Z → List (Event F) → Type 0
IsTaken path given missing store events =
    (IsStore store × (events ≡ ReadToReplace path (Ok (text_of store)) ∷ []))
    ⊎ IsNew path given missing store events

-- under the lock the file is refused, or gives no store; or no salt is drawn for a new one
abbrev pub IsNotTaken : {F : Type 0} → (path : List ℕ) → (missing : Bool) → Failure
    → List (Event F) → Type 0
IsNotTaken path missing failed events =
    (IsNotReplaceable failed × (¬ ((missing ≡ true) × (failed ≡ failure.NoFile)))
    × (events ≡ ReadToReplace path (Err failed) ∷ []))
    ⊎ ((text : List ℕ) × IsNoStore text failed × (events ≡ ReadToReplace path (Ok text) ∷ []))
    ⊎ ((missing ≡ true) × IsOfSystem step.Salt failed × (salt : List ℕ)
    × (events ≡ ReadToReplace path (Err failure.NoFile) ∷ Random salt false ∷ []))

-- the file is looked at, then the password is read, and then the store under the lock
pub record IsBegun {F Z : Type 0} (path : List ℕ) (given : Option NonZeroU32) (password : List ℕ)
    (store : PasswordStore Z) (events : List (Event F)) : Type 0 where
  pub missing : Bool
  pub first : List (Event F)
  pub taken : List (Event F)
  pub looked : IsFirstLook path missing first
  pub is_taken : IsTaken path given missing store taken
  pub are : events ≡ first ++ ReadPassword (Ok password) ∷ LockStore path true ∷ taken

-- the first look refuses the name or the file, but not because there is none
abbrev pub IsNotLooked : {F : Type 0} → (path : List ℕ) → Failure → List (Event F) → Type 0
IsNotLooked path failed events =
    ((failed ≢ failure.NoFile) × IsNotSeen path failed events)
    ⊎ (IsNotReplaceable failed × (text : List ℕ)
    × (events ≡ ReadStore path (Ok text) ∷ LookForLinks path (Err failed) ∷ []))

-- after the first look the password is not read, or the file is not locked, or it gives no store
abbrev pub IsNotGoneOn : {F : Type 0} → (path : List ℕ) → (missing : Bool) → Failure
    → List (Event F) → Type 0
IsNotGoneOn path missing failed events =
    (IsNoPassword failed × (events ≡ ReadPassword (Err failed) ∷ []))
    ⊎ (IsNotLocked failed × (password : List ℕ)
    × (events ≡ ReadPassword (Ok password) ∷ LockStore path false ∷ []))
    ⊎ ((password : List ℕ) × (taken : List (Event _)) × IsNotTaken path missing failed taken
    × (events ≡ ReadPassword (Ok password) ∷ LockStore path true ∷ taken))

-- the first look refuses, or what follows it
abbrev pub IsNotBegun : {F : Type 0} → (path : List ℕ) → Failure → List (Event F) → Type 0
IsNotBegun path failed events =
    IsNotLooked path failed events
    ⊎ ((missing : Bool) × (first last : List (Event _)) × IsFirstLook path missing first
    × IsNotGoneOn path missing failed last × (events ≡ first ++ last))

-- a password is set in the store that was read under the lock, or in a new one, and then come steps
-- of which P holds with that store
pub record IsSetThen {F : Type 0} (Z : Type 0) (path name : List ℕ) (given : Option NonZeroU32)
    (P : PasswordStore Z → List (Event F) → Type 0) (events : List (Event F)) : Type 0 where
  pub password : List ℕ
  pub store : PasswordStore Z
  pub begun : List (Event F)
  pub last : List (Event F)
  pub is_begun : IsBegun path given password store begun
  pub holds : P (with_password (with_given store given) name password) last
  pub are : events ≡ begun ++ last

-- the file gets the text of that store
abbrev pub IsSet : {F : Type 0} → (Z : Type 0) → (path name : List ℕ)
    → (given : Option NonZeroU32) → (iterations : NonZeroU32) → List (Event F) → Type 0
IsSet Z path name given iterations events = IsSetThen Z path name given
    (λ set last. IsReplaced path (text_of set) true last × (iterations ≡ asked_iterations set))
    events

-- the store that is read refuses the password, or there is no memory for a new name
abbrev pub IsNotAdmitted : {F : Type 0} → (Z : Type 0) → (path name : List ℕ)
    → (given : Option NonZeroU32) → Failure → List (Event F) → Type 0
IsNotAdmitted Z path name given failed events =
    (password : List ℕ) × (store : PasswordStore Z) × IsBegun path given password store events
    × ((Err failed ≡ told (admission name password))
    ⊎ ((failed ≡ failure.Memory) × (admission name password ≡ Ok tt)
    × (knows store name ≡ false)))

-- the file gets the text of that store, and the folder is not synced
abbrev pub IsSetUnsynced : {F : Type 0} → (Z : Type 0) → (path name : List ℕ)
    → (given : Option NonZeroU32) → List (Event F) → Type 0
IsSetUnsynced Z path name given events =
    IsSetThen Z path name given (λ set last. IsReplaced path (text_of set) false last) events

-- why, and after which steps, a password is not set, or not for certain
abbrev pub IsNotSet : {F : Type 0} → (Z : Type 0) → (path name : List ℕ)
    → (given : Option NonZeroU32) → Failure → List (Event F) → Type 0
IsNotSet Z path name given failed events =
    IsNotBegun path failed events
    ⊎ IsNotAdmitted Z path name given failed events
    ⊎ IsSetThen Z path name given (λ set last. IsNotReplaced path (text_of set) failed last) events

-- the file was there at the first look, and then is no more: before the password is read, or under
-- the lock
abbrev pub IsVanished : {F : Type 0} → (path : List ℕ) → List (Event F) → Type 0
IsVanished path events =
    ((text : List ℕ)
    × (events ≡ ReadStore path (Ok text) ∷ LookForLinks path (Err failure.NoFile) ∷ []))
    ⊎ ((text password : List ℕ) × (events ≡ ReadStore path (Ok text) ∷ LookForLinks path (Ok tt)
    ∷ ReadPassword (Ok password) ∷ LockStore path true
    ∷ ReadToReplace path (Err failure.NoFile) ∷ []))

-- there is no such file exactly if it vanished
abbrev pub IsGone : {F : Type 0} → (path : List ℕ) → Failure → List (Event F) → Type 0
IsGone path failed events = (failed ≡ failure.NoFile) ↔ IsVanished path events

-- the file has no other name and is locked, and then its store is read
abbrev pub IsOpened : {F Z : Type 0} → (path : List ℕ) → PasswordStore Z → List (Event F) → Type 0
IsOpened path store events = IsStore store × (events ≡ LookForLinks path (Ok tt)
    ∷ LockStore path true ∷ ReadToReplace path (Ok (text_of store)) ∷ [])

-- the file has another name, or is not locked, or gives no store
abbrev pub IsNotOpened : {F : Type 0} → (path : List ℕ) → Failure → List (Event F) → Type 0
IsNotOpened path failed events =
    (IsNotReplaceable failed × (events ≡ LookForLinks path (Err failed) ∷ []))
    ⊎ (IsNotLocked failed × (events ≡ LookForLinks path (Ok tt) ∷ LockStore path false ∷ []))
    ⊎ ((taken : List (Event _)) × IsNotTaken path false failed taken
    × (events ≡ LookForLinks path (Ok tt) ∷ LockStore path true ∷ taken))

-- a name that the store has is removed, and then come steps of which P holds with the text
pub record IsRemovedThen {F : Type 0} (Z : Type 0) (path name : List ℕ)
    (P : (text : List ℕ) → List (Event F) → Type 0) (events : List (Event F)) : Type 0 where
  pub store : PasswordStore Z
  pub opened : List (Event F)
  pub last : List (Event F)
  pub is_opened : IsOpened path store opened
  pub known : knows store name ≡ true
  pub holds : P (text_of (without store name)) last
  pub are : events ≡ opened ++ last

-- the file gets the text of the store without the name
abbrev pub IsRemoved : {F : Type 0} → (Z : Type 0) → (path name : List ℕ) → List (Event F)
    → Type 0
IsRemoved Z path name events =
    IsRemovedThen Z path name (λ text last. IsReplaced path text true last) events

-- the file gets the text of the store without the name, and the folder is not synced
abbrev pub IsRemovedUnsynced : {F : Type 0} → (Z : Type 0) → (path name : List ℕ)
    → List (Event F) → Type 0
IsRemovedUnsynced Z path name events =
    IsRemovedThen Z path name (λ text last. IsReplaced path text false last) events

-- why, and after which steps, a name is not removed, or not for certain
abbrev pub IsNotRemoved : {F : Type 0} → (Z : Type 0) → (path name : List ℕ) → Failure
    → List (Event F) → Type 0
IsNotRemoved Z path name failed events =
    IsNotOpened path failed events
    ⊎ ((failed ≡ failure.NoSuchName) × (store : PasswordStore Z) × (knows store name ≡ false)
    × IsOpened path store events)
    ⊎ IsRemovedThen Z path name (λ text last. IsNotReplaced path text failed last) events
