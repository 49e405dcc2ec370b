-- SPDX-License-Identifier: ISC
-- The steps that keep a store's file as it is.
use Rattle.std.proofs.Common.{◌≡◌, ◌++◌, ℕ, Bool, true, false, List, [], ◌∷◌, Option, Some, None}
use Rattle.std.proofs.Common.{Result, Ok, inl, inr, refl}
use Rattle.std.proofs.lemmas.List.Elements.{All-append, All-cons, All-nil, All-same, All-weaker}
use Rattle.std.specs.Prelude.{All, IfErr, bit_and}
use Rattle.std.specs.declared.num.NonZeroU32.{NonZeroU32}
use Rattle.ring_store.specs.declared.store.PasswordStore.{PasswordStore}
use Rattle.ring_store_text.specs.Text.{text_of}
use Rattle.ring_passwords.specs.Event.{Event, OpenFolder, ListNames, NextName, RemoveUnlocked}
use Rattle.ring_passwords.specs.Event.{Random, Create, Lock}
use Rattle.ring_passwords.specs.Event.{SetMode, SetOwner, Write, Look, Sync, Rename, Remove, Did}
use Rattle.ring_passwords.specs.Event.{ReadPassword, ReadStore, LookForLinks, LockStore}
use Rattle.ring_passwords.specs.Event.{ReadToReplace}
use Rattle.ring_passwords.specs.Failure.{IsOfSystem}
use Rattle.ring_passwords.specs.Folder.{folder_in}
use Rattle.ring_passwords.specs.Order.{IsBegun, IsFirstLook, IsNotBegun, IsNotGoneOn, IsNotLoaded}
use Rattle.ring_passwords.specs.Order.{IsNotLooked, IsNotOpened, IsNotRemoved, IsNotSeen}
use Rattle.ring_passwords.specs.Order.{IsNotSet, IsNotTaken, IsOpened, IsTaken}
use Rattle.ring_passwords.specs.Replace.{IsBefore, IsKeeping, IsKept, IsMade}
use Rattle.ring_passwords.specs.Replace.{IsAccess, IsAccessGiven, IsNewPath, IsNoAccess, IsNotPut}
use Rattle.ring_passwords.specs.Replace.{IsNotReplaced, IsOwnerGiven, IsStopped}
use Rattle.ring_passwords.specs.declared.failure.Failure.{Failure}
use Rattle.ring_passwords.specs.declared.failure.Step.TheVariants as step
use Rattle.ring_passwords.specs.declared.steps.Access.{Access}
use Rattle.ring_passwords.proofs.Events.{Did-map, if_err_weaker}
use Rattle.ring_passwords.proofs.Replaced.{swept_before}

module _ {F : Type 0} (path : List ℕ) where
  before_keeps : (new : Option F) (e : Event F) → IsBefore path e → IsKeeping path new e
  before_keeps new (OpenFolder folder found) before = tt
  before_keeps new (ListNames folder done) before = tt
  before_keeps new (NextName name) before = tt
  before_keeps new (RemoveUnlocked name done) left = left
  before_keeps new (Random bytes done) before = tt
  before_keeps new (Create new_path None) before = tt
  before_keeps new (Create new_path (Some file)) before = absurd before
  before_keeps new (Lock file done) before = absurd before
  before_keeps new (SetMode file mode done) before = absurd before
  before_keeps new (SetOwner file user group done) before = absurd before
  before_keeps new (Write file bytes done) before = absurd before
  before_keeps new (Look name found) before = absurd before
  before_keeps new (Sync file done) before = absurd before
  before_keeps new (Rename from to done) before = absurd before
  before_keeps new (Remove name done) before = absurd before
  before_keeps new (ReadPassword password) before = absurd before
  before_keeps new (ReadStore name text) before = absurd before
  before_keeps new (LookForLinks name single) before = absurd before
  before_keeps new (LockStore name done) before = absurd before
  before_keeps new (ReadToReplace name text) before = absurd before

  stopped_all : (P : Event F → Type 0) (events : List (Event F)) → IsStopped P events
      → All P events
  stopped_all P events stopped = All-same P events _ stopped.are
      (All-append P stopped.front (stopped.last ∷ []) stopped.done
      (All-cons P stopped.last [] stopped.kind (All-nil P)))

  keeps_before : (new : Option F) (events : List (Event F)) → All (IsBefore path) events
      → All (IsKeeping path new) events
  keeps_before new = All-weaker (IsBefore path) (IsKeeping path new) (before_keeps new)

  keeps_made : (folder : F) (new_path : List ℕ) (new : F) (events : List (Event F))
      → IsMade path folder new_path new events → All (IsKeeping path (Some new)) events
  keeps_made folder new_path new events made =
      let P = IsKeeping path (Some new) in
      let named : IsNewPath path new_path = (made.random, made.len, made.named) in
      let opened : Event F = OpenFolder (folder_in path) (Some folder) in
      let drawn : Event F = Random made.random true in
      let created : Event F = Create new_path (Some new) in
      All-same P events ((opened ∷ made.swept) ++ drawn ∷ created ∷ []) made.are
      (All-append P (opened ∷ made.swept) (drawn ∷ created ∷ [])
      (All-cons P opened made.swept tt
      (keeps_before (Some new) made.swept
      (swept_before path (folder_in path) made.swept made.is_swept)))
      (All-cons P drawn (created ∷ []) tt
      (All-cons P created [] (named, refl) (All-nil P))))

  -- what reads the file keeps it

  module _ (new : Option F) where
    one : (e : Event F) → IsKeeping path new e → All (IsKeeping path new) (e ∷ [])
    one e keeps = All-cons (IsKeeping path new) e [] keeps (All-nil (IsKeeping path new))

    two : (d e : Event F) → IsKeeping path new d → IsKeeping path new e
        → All (IsKeeping path new) (d ∷ e ∷ [])
    two d e first second = All-cons (IsKeeping path new) d (e ∷ []) first (one e second)

    same : {xs ys : List (Event F)} → xs ≡ ys → All (IsKeeping path new) ys
        → All (IsKeeping path new) xs
    same {xs = xs} {ys = ys} = All-same (IsKeeping path new) xs ys

    keeps_then : (d e : Event F) (rest : List (Event F)) → IsKeeping path new d
        → IsKeeping path new e → All (IsKeeping path new) rest
        → All (IsKeeping path new) (d ∷ e ∷ rest)
    keeps_then d e rest first second last =
        All-cons (IsKeeping path new) d (e ∷ rest) first
        (All-cons (IsKeeping path new) e rest second last)

    keeps_not_loaded : (failed : Failure) (events : List (Event F))
        → IsNotLoaded path failed events → All (IsKeeping path new) events
    keeps_not_loaded failed events (inl (why, are)) = same are (one _ tt)
    keeps_not_loaded failed events (inr (text, why, are)) = same are (one _ tt)

    keeps_not_seen : (failed : Failure) (events : List (Event F)) → IsNotSeen path failed events
        → All (IsKeeping path new) events
    keeps_not_seen failed events (inl (is, none)) = same none (All-nil (IsKeeping path new))
    keeps_not_seen failed events (inr loaded) = keeps_not_loaded failed events loaded

    keeps_not_looked : (failed : Failure) (events : List (Event F))
        → IsNotLooked path failed events → All (IsKeeping path new) events
    keeps_not_looked failed events (inl (other, seen)) = keeps_not_seen failed events seen
    keeps_not_looked failed events (inr (why, text, are)) = same are (two _ _ tt tt)

    keeps_first_look : (missing : Bool) (events : List (Event F))
        → IsFirstLook path missing events → All (IsKeeping path new) events
    keeps_first_look true events are = same are (one _ tt)
    keeps_first_look false events (text, are) = same are (two _ _ tt tt)

    keeps_taken : {Z : Type 0} (given : Option NonZeroU32) (missing : Bool)
        (store : PasswordStore Z) (events : List (Event F))
        → IsTaken path given missing store events → All (IsKeeping path new) events
    keeps_taken given missing store events (inl (valid, are)) = same are (one _ tt)
    keeps_taken given missing store events (inr fresh) = same fresh.are (two _ _ tt tt)

    keeps_not_taken : (missing : Bool) (failed : Failure) (events : List (Event F))
        → IsNotTaken path missing failed events → All (IsKeeping path new) events
    keeps_not_taken missing failed events (inl (why, other, are)) = same are (one _ tt)
    keeps_not_taken missing failed events (inr (inl (text, why, are))) = same are (one _ tt)
    keeps_not_taken missing failed events (inr (inr (missed, why, salt, are))) =
        same are (two _ _ tt tt)

    keeps_not_gone_on : (missing : Bool) (failed : Failure) (events : List (Event F))
        → IsNotGoneOn path missing failed events → All (IsKeeping path new) events
    keeps_not_gone_on missing failed events (inl (why, are)) = same are (one _ tt)
    keeps_not_gone_on missing failed events (inr (inl (why, typed, are))) =
        same are (two _ _ tt tt)
    keeps_not_gone_on missing failed events (inr (inr (typed, taken, is, are))) =
        same are (keeps_then _ _ taken tt tt (keeps_not_taken missing failed taken is))

    keeps_not_begun : (failed : Failure) (events : List (Event F))
        → IsNotBegun path failed events → All (IsKeeping path new) events
    keeps_not_begun failed events (inl looked) = keeps_not_looked failed events looked
    keeps_not_begun failed events (inr (missing, first, last, looked, is, are)) =
        same are (All-append (IsKeeping path new) first last
        (keeps_first_look missing first looked) (keeps_not_gone_on missing failed last is))

    keeps_begun : {Z : Type 0} (given : Option NonZeroU32) (password : List ℕ)
        (store : PasswordStore Z) (events : List (Event F))
        → IsBegun path given password store events → All (IsKeeping path new) events
    keeps_begun given password store events begun =
        same begun.are (All-append (IsKeeping path new) begun.first _
        (keeps_first_look begun.missing begun.first begun.looked)
        (keeps_then _ _ begun.taken tt tt
        (keeps_taken given begun.missing store begun.taken begun.is_taken)))

    keeps_opened : {Z : Type 0} (store : PasswordStore Z) (events : List (Event F))
        → IsOpened path store events → All (IsKeeping path new) events
    keeps_opened store events (valid, are) =
        let read : Event F = ReadToReplace path (Ok (text_of store)) in
        same are (keeps_then _ _ (read ∷ []) tt tt (one read tt))

    keeps_not_opened : (failed : Failure) (events : List (Event F))
        → IsNotOpened path failed events → All (IsKeeping path new) events
    keeps_not_opened failed events (inl (why, are)) = same are (one _ tt)
    keeps_not_opened failed events (inr (inl (why, are))) = same are (two _ _ tt tt)
    keeps_not_opened failed events (inr (inr (taken, is, are))) =
        same are (keeps_then _ _ taken tt tt (keeps_not_taken false failed taken is))

  -- what is done with a new file keeps the old one

  keeps_owner : (new : F) (old : Access) (given : Bool) (events : List (Event F))
      → IsOwnerGiven new old given events → All (IsKeeping path (Some new)) events
  keeps_owner new old true events (inl are) = same (Some new) are (one (Some new) _ refl)
  keeps_owner new old true events (inr are) = same (Some new) are (two (Some new) _ _ refl refl)
  keeps_owner new old false events are = same (Some new) are (two (Some new) _ _ refl refl)

  keeps_mode : (new : F) (old : Access) (done : Bool) (owner events : List (Event F))
      → IsOwnerGiven new old true owner
      → events ≡ owner ++ SetMode new (bit_and old.mode 0o777) done ∷ []
      → All (IsKeeping path (Some new)) events
  keeps_mode new old done owner events given are =
      same (Some new) are (All-append (IsKeeping path (Some new)) owner _
      (keeps_owner new old true owner given) (one (Some new) _ refl))

  keeps_given : (new : F) (old : Access) (events : List (Event F))
      → IsAccessGiven new old events → All (IsKeeping path (Some new)) events
  keeps_given new old events (inl refused) = keeps_owner new old false events refused
  keeps_given new old events (inr (owner, given, are)) =
      keeps_mode new old true owner events given are

  keeps_access : (new : F) (events : List (Event F)) → IsAccess path new events
      → All (IsKeeping path (Some new)) events
  keeps_access new events (inl are) = same (Some new) are (one (Some new) _ tt)
  keeps_access new events (inr (old, given, is, are)) =
      same (Some new) are (All-cons (IsKeeping path (Some new)) _ given tt
      (keeps_given new old given is))

  keeps_no_access : (new : F) (events : List (Event F)) → IsNoAccess path new events
      → All (IsKeeping path (Some new)) events
  keeps_no_access new events (inl are) = same (Some new) are (one (Some new) _ tt)
  keeps_no_access new events (inr (old, given, (owner, is_owner, is), are)) =
      same (Some new) are (All-cons (IsKeeping path (Some new)) _ given tt
      (keeps_mode new old false owner given is_owner is))

  keeps_written : (new : F) (text : List ℕ) (done : Bool) (rest : List (Event F))
      → All (IsKeeping path (Some new)) rest
      → All (IsKeeping path (Some new))
      (Lock new true ∷ SetMode new 0o600 true ∷ Write new text done ∷ rest)
  keeps_written new text done rest last =
      keeps_then (Some new) _ _ (Write new text done ∷ rest) tt refl
      (All-cons (IsKeeping path (Some new)) (Write new text done) rest refl last)

  keeps_not_put : (new_path : List ℕ) (new : F) (text : List ℕ) (events : List (Event F))
      → IsNotPut path new_path new text events → All (IsKeeping path (Some new)) events
  keeps_not_put new_path new text events (inl are) =
      same (Some new) are (one (Some new) _ tt)
  keeps_not_put new_path new text events (inr (inl are)) =
      same (Some new) are (two (Some new) _ _ tt refl)
  keeps_not_put new_path new text events (inr (inr (inl are))) =
      same (Some new) are (keeps_written new text false [] (All-nil (IsKeeping path (Some new))))
  keeps_not_put new_path new text events (inr (inr (inr (inl (access, is, are))))) =
      same (Some new) are (keeps_written new text true access (keeps_no_access new access is))
  keeps_not_put new_path new text events (inr (inr (inr (inr (inl (access, is, are)))))) =
      same (Some new) are (All-append (IsKeeping path (Some new))
      (Lock new true ∷ SetMode new 0o600 true ∷ Write new text true ∷ access)
      (Sync new false ∷ [])
      (keeps_written new text true access (keeps_access new access is))
      (one (Some new) (Sync new false) tt))
  keeps_not_put new_path new text events (inr (inr (inr (inr (inr (access, is, are)))))) =
      same (Some new) are (All-append (IsKeeping path (Some new))
      (Lock new true ∷ SetMode new 0o600 true ∷ Write new text true ∷ access)
      (Sync new true ∷ Rename new_path path false ∷ [])
      (keeps_written new text true access (keeps_access new access is))
      (two (Some new) (Sync new true) (Rename new_path path false) tt refl))

  -- unless the folder alone is not synced
  not_replaced_keeps : (text : List ℕ) (failed : Failure) (events : List (Event F))
      → ¬ IsOfSystem step.SyncFolder failed → IsNotReplaced path text failed events
      → IsKept path events
  not_replaced_keeps text failed events other (inl (inl (is, before))) =
      (None, keeps_before None events before)
  not_replaced_keeps text failed events other (inl (inr (is, stopped))) =
      (None, keeps_before None events (stopped_all (IsBefore path) events stopped))
  not_replaced_keeps text failed events other (inr (inl (is, undone))) =
      let new = undone.new in
      let made = undone.is_made in
      let P = IsKeeping path (Some new) in
      let named : IsNewPath path undone.new_path = (made.random, made.len, made.named) in
      let gone : Event F = Remove undone.new_path undone.removed in (
        Some new,
        All-same P events (undone.made ++ undone.tried ++ gone ∷ []) undone.are
            (All-append P (undone.made ++ undone.tried) (gone ∷ [])
            (All-append P undone.made undone.tried
            (keeps_made undone.folder undone.new_path new undone.made made)
            (keeps_not_put undone.new_path new text undone.tried undone.is_not_put))
            (All-cons P gone [] named (All-nil P))),
      )
  not_replaced_keeps text failed events other (inr (inr (is, replaced))) = absurd (other is)

  module _ {Z : Type 0} (name : List ℕ) where
    not_set_keeps : (given : Option NonZeroU32) (failed : Failure) (events : List (Event F))
        → ¬ IsOfSystem step.SyncFolder failed → IsNotSet Z path name given failed events
        → IsKept path events
    not_set_keeps given failed events other (inl begun) =
        (None, keeps_not_begun None failed events begun)
    not_set_keeps given failed events other (inr (inl (password, store, is, why))) =
        (None, keeps_begun None given password store events is)
    not_set_keeps given failed events other (inr (inr set)) =
        let kept = not_replaced_keeps _ failed set.last other set.holds in (
          kept.0,
          same kept.0 set.are (All-append (IsKeeping path kept.0) set.begun set.last
              (keeps_begun kept.0 given set.password set.store set.begun set.is_begun) kept.1),
        )

    not_removed_keeps : (failed : Failure) (events : List (Event F))
        → ¬ IsOfSystem step.SyncFolder failed → IsNotRemoved Z path name failed events
        → IsKept path events
    not_removed_keeps failed events other (inl opened) =
        (None, keeps_not_opened None failed events opened)
    not_removed_keeps failed events other (inr (inl (why, store, unknown, opened))) =
        (None, keeps_opened None store events opened)
    not_removed_keeps failed events other (inr (inr removed)) =
        let kept = not_replaced_keeps _ failed removed.last other removed.holds in (
          kept.0,
          same kept.0 removed.are (All-append (IsKeeping path kept.0) removed.opened removed.last
              (keeps_opened kept.0 removed.store removed.opened removed.is_opened) kept.1),
        )

    not_set_kept : (given : Option NonZeroU32) (failed : Failure)
        {a b : Option (List (Event F))} → Did a b (IsNotSet Z path name given failed)
        → ¬ IsOfSystem step.SyncFolder failed → Did a b (IsKept path)
    not_set_kept given failed did other =
        Did-map (IsNotSet Z path name given failed) (IsKept path)
        (λ events. not_set_keeps given failed events other) did

    not_removed_kept : (failed : Failure) {a b : Option (List (Event F))}
        → Did a b (IsNotRemoved Z path name failed) → ¬ IsOfSystem step.SyncFolder failed
        → Did a b (IsKept path)
    not_removed_kept failed did other =
        Did-map (IsNotRemoved Z path name failed) (IsKept path)
        (λ events. not_removed_keeps failed events other) did

  module _ (Z : Type 0) (name : List ℕ) {T : Type 0} (r : Result T Failure)
      (a b : Option (List (Event F))) where
    pub kept_if_not_set : (given : Option NonZeroU32)
        → IfErr r (λ failed. Did a b (IsNotSet Z path name given failed))
        → IfErr r (λ failed. ¬ IsOfSystem step.SyncFolder failed → Did a b (IsKept path))
    kept_if_not_set given = if_err_weaker r (λ failed. not_set_kept name given failed)

    pub kept_if_not_removed : IfErr r (λ failed. Did a b (IsNotRemoved Z path name failed))
        → IfErr r (λ failed. ¬ IsOfSystem step.SyncFolder failed → Did a b (IsKept path))
    kept_if_not_removed = if_err_weaker r (λ failed. not_removed_kept name failed)
