-- SPDX-License-Identifier: ISC
-- The order in which a store's file and the password are read.
use Rattle.std.proofs.Common.{◌≡◌, ◌++◌, ◌∙◌, ℕ, Bool, true, false, List, [], ◌∷◌, Option}
use Rattle.std.proofs.Common.{Result, Ok, Err, ap, inl, inr, refl, subst, sym}
use Rattle.std.specs.Prelude.{◌≢◌, ◌⊎◌, IfErr, IfOk, IsErrAnd, IsErrOf}
use Rattle.std.proofs.lemmas.List.{append-nil}
use Rattle.std.specs.declared.num.NonZeroU32.{NonZeroU32}
use Rattle.ring.specs.Cost.{Counts, raised}
use Rattle.ring_store.specs.Store.{admission, asked_iterations, knows, new_store, verdict}
use Rattle.ring_store.specs.Store.{verify_blocks, with_password, without}
use Rattle.ring_store.specs.declared.error.StoreError.{StoreError}
use Rattle.ring_store.specs.declared.error.StoreError.TheVariants as refused
use Rattle.ring_store.specs.declared.store.PasswordStore.{PasswordStore}
use Rattle.ring_store_text.specs.Text.{IsStore, text_of}
use Rattle.ring_passwords.specs.Change.{IsCountOfNew, IsNoStore, told, with_given}
use Rattle.ring_passwords.specs.Event.{Event, Did, Does, Notes, LockStore, LookForLinks}
use Rattle.ring_passwords.specs.Event.{ReadPassword, ReadStore, ReadToReplace}
use Rattle.ring_passwords.specs.Failure.{IsNoPassword, IsNotLocked, IsNotRead, IsNotReplaceable}
use Rattle.ring_passwords.specs.Failure.{IsOfSystem}
use Rattle.ring_passwords.specs.Order.{IsBegun, IsFirstLook, IsGone, IsLoaded}
use Rattle.ring_passwords.specs.Order.{IsNotBegun, IsNotGoneOn, IsNotLoaded, IsNotLooked}
use Rattle.ring_passwords.specs.Order.{IsNotOpened, IsNotRemoved, IsNotSeen, IsNotSet, IsNotTaken}
use Rattle.ring_passwords.specs.Order.{IsNotTested, IsOpened, IsRemoved, IsRemovedThen, IsSet}
use Rattle.ring_passwords.specs.Order.{IsSetThen, IsTaken, IsVanished, IsVerified}
use Rattle.ring_passwords.specs.Replace.{IsNotReplaced, IsReplaced}
use Rattle.ring_passwords.specs.Salt.{IsDrawn, IsNotDrawn}
use Rattle.ring_passwords.specs.declared.failure.Failure.{Failure}
use Rattle.ring_passwords.specs.declared.failure.Failure.TheVariants as failure
use Rattle.ring_passwords.specs.declared.failure.Step.TheVariants as step
use Rattle.ring_passwords.proofs.Events.{Did-map, Did-still, Does-then, Does-nothing}
use Rattle.ring_passwords.proofs.Events.{if_err_weaker, if_ok_weaker}

-- failures that aren't that of a missing file

pub no_store_other : (text : List ℕ) (failed : Failure) → IsNoStore text failed
    → failed ≢ failure.NoFile
no_store_other text failed (inl (is, none)) = λ same. absurd cc
no_store_other text failed (inr (is, some)) = λ same. absurd cc

pub no_password_other : (failed : Failure) → IsNoPassword failed → failed ≢ failure.NoFile
no_password_other failed (inl is) = λ same. absurd cc
no_password_other failed (inr (inl is)) = λ same. absurd cc
no_password_other failed (inr (inr (error, is))) = λ same. absurd cc

pub not_locked_other : (failed : Failure) → IsNotLocked failed → failed ≢ failure.NoFile
not_locked_other failed (inl is) = λ same. absurd cc
not_locked_other failed (inr (inl is)) = λ same. absurd cc
not_locked_other failed (inr (inr (inl is))) = λ same. absurd cc
not_locked_other failed (inr (inr (inr (error, is)))) = λ same. absurd cc

salt_other : (failed : Failure) → IsOfSystem step.Salt failed → failed ≢ failure.NoFile
salt_other failed (error, is) = λ same. absurd cc

pub not_replaced_other : {F : Type 0} (path text : List ℕ) (failed : Failure)
    (events : List (Event F)) → IsNotReplaced path text failed events → failed ≢ failure.NoFile
not_replaced_other path text failed events (inl (inl (is, before))) = λ same. absurd cc
not_replaced_other path text failed events (inl (inr ((error, is), stopped))) = λ same. absurd cc
not_replaced_other path text failed events (inr (inl ((error, is), undone))) = λ same. absurd cc
not_replaced_other path text failed events (inr (inr ((error, is), done))) = λ same. absurd cc

failure_of_other : (error : StoreError) (failed : Failure)
    → Err failed ≡ told (Err error) → failed ≢ failure.NoFile
failure_of_other refused.BadName failed is = λ same. absurd cc
failure_of_other refused.TooLong failed is = λ same. absurd cc
failure_of_other refused.WrongUsernameOrPassword failed is = λ same. absurd cc
failure_of_other refused.Memory failed is = λ same. absurd cc

pub told_other : (r : Result (Unit {0}) StoreError) (failed : Failure) → Err failed ≡ told r
    → failed ≢ failure.NoFile
told_other (Ok u) failed is = λ same. absurd cc
told_other (Err error) failed is = failure_of_other error failed is

not_admitted_other : {Z : Type 0} (name password : List ℕ) (store : PasswordStore Z)
    (failed : Failure) → (Err failed ≡ told (admission name password))
    ⊎ ((failed ≡ failure.Memory) × (admission name password ≡ Ok tt)
    × (knows store name ≡ false)) → failed ≢ failure.NoFile
not_admitted_other name password store failed (inl is) =
    told_other (admission name password) failed is
not_admitted_other name password store failed (inr (is, admitted, new)) = λ same. absurd cc

-- what is no vanished file

module _ {F : Type 0} (path : List ℕ) where
  missing_from_the_first : (rest : List (Event F))
      → ¬ IsVanished path (ReadStore path (Err failure.NoFile) ∷ rest)
  missing_from_the_first rest (inl (text, is)) = absurd cc
  missing_from_the_first rest (inr (text, password, is)) = absurd cc

  refused_at_once : (failed : Failure) (events : List (Event F)) → IsNotSeen path failed events
      → ¬ IsVanished path events
  refused_at_once failed events (inl (name, none)) (inl (text, is)) = absurd cc
  refused_at_once failed events (inl (name, none)) (inr (text, password, is)) = absurd cc
  refused_at_once failed events (inr (inl (why, one))) (inl (text, is)) = absurd cc
  refused_at_once failed events (inr (inl (why, one))) (inr (text, password, is)) = absurd cc
  refused_at_once failed events (inr (inr (read, why, one))) (inl (text, is)) = absurd cc
  refused_at_once failed events (inr (inr (read, why, one))) (inr (text, password, is)) =
      absurd cc

  no_password : (read : List ℕ) (failed : Failure)
      → ¬ IsVanished {F = F} path (ReadStore path (Ok read) ∷ LookForLinks path (Ok tt)
      ∷ ReadPassword (Err failed) ∷ [])
  no_password read failed (inl (text, is)) = absurd cc
  no_password read failed (inr (text, password, is)) = absurd cc

  no_lock : (read typed : List ℕ)
      → ¬ IsVanished {F = F} path (ReadStore path (Ok read) ∷ LookForLinks path (Ok tt)
      ∷ ReadPassword (Ok typed) ∷ LockStore path false ∷ [])
  no_lock read typed (inl (text, is)) = absurd cc
  no_lock read typed (inr (text, password, is)) = absurd cc

  still_there : (read typed now : List ℕ) (rest : List (Event F))
      → ¬ IsVanished path (ReadStore path (Ok read) ∷ LookForLinks path (Ok tt)
      ∷ ReadPassword (Ok typed) ∷ LockStore path true ∷ ReadToReplace path (Ok now) ∷ rest)
  still_there read typed now rest (inl (text, is)) = absurd cc
  still_there read typed now rest (inr (text, password, is)) = absurd cc

not_gone : {F : Type 0} (path : List ℕ) (failed : Failure) (events : List (Event F))
    → failed ≢ failure.NoFile → ¬ IsVanished path events → IsGone path failed events
not_gone path failed events other never =
    (λ same. absurd (other same), λ vanished. absurd (never vanished))

module _ {F : Type 0} where
  -- one event that is known
  noted : {a b : Option (List (Event F))} {e : Event F} (events : List (Event F))
      → events ≡ e ∷ [] → Does a b events → Notes a b e
  noted {a = a} {b = b} events is does = subst (λ (es : List (Event F)). Does a b es) is does

  -- a store is read

  pub loaded : {Z : Type 0} (path text : List ℕ) (store : PasswordStore Z)
      {a b : Option (List (Event F))} → Notes a b (ReadStore path (Ok text))
      → text_of store ≡ text → IsStore store → Did a b (IsLoaded path store)
  loaded path text store notes is valid = record {
    events = ReadStore path (Ok text) ∷ [];
    are = (valid, ap (λ (t : List ℕ). ReadStore path (Ok t) ∷ []) (sym is));
    does = notes;
  }

  pub not_read : (path : List ℕ) (failed : Failure) {a b : Option (List (Event F))}
      → IsNotRead failed → Notes a b (ReadStore path (Err failed))
      → Did a b (IsNotLoaded path failed)
  not_read path failed why notes = record { events = _; are = inl (why, refl); does = notes }

  pub no_store : (path text : List ℕ) (failed : Failure) {a b : Option (List (Event F))}
      → Notes a b (ReadStore path (Ok text)) → IsNoStore text failed
      → Did a b (IsNotLoaded path failed)
  no_store path text failed notes why =
      record { events = _; are = inr (text, why, refl); does = notes }

  pub bad_name : (path : List ℕ) (failed : Failure) (a : Option (List (Event F)))
      → failed ≡ failure.BadName → Did a a (IsNotSeen path failed)
  bad_name path failed a is =
      record { events = []; are = inl (is, refl); does = Does-nothing a }

  pub not_seen : (path : List ℕ) (failed : Failure) {a b : Option (List (Event F))}
      → Did a b (IsNotLoaded path failed) → Did a b (IsNotSeen path failed)
  not_seen path failed =
      Did-map (IsNotLoaded path failed) (IsNotSeen path failed) (λ events h. inr h)

  -- a password is tested

  pub tested : {Z : Type 0} (path name password : List ℕ) (before store : PasswordStore Z)
      (start end : Counts) (r : Result (Unit {0}) Failure) {a b c d : Option (List (Event F))}
      → Did a b (IsLoaded path before) → Notes b c (ReadPassword (Ok password))
      → Did c d (IsLoaded path store) → r ≡ told (verdict store name password)
      → (admission name password ≡ Ok tt
      → end ≡ raised start (verify_blocks store name password) 32)
      → (admission name password ≢ Ok tt → end ≡ start)
      → Did a d (IsVerified Z path name start end r)
  tested path name password before store start end r first typed last is cost untested = record {
    events = ReadStore path (Ok (text_of before)) ∷ ReadPassword (Ok password)
        ∷ ReadStore path (Ok (text_of store)) ∷ [];
    are = inl (record {
      before = text_of before;
      password = password;
      store = store;
      is = last.are.0;
      answer = is;
      cost = record { admitted = cost; refused = untested };
      are = refl;
    });
    does = Does-then (noted first.events first.are.1 first.does)
        (Does-then typed (noted last.events last.are.1 last.does));
  }

  pub not_typed : {Z : Type 0} (path : List ℕ) (before : PasswordStore Z) (failed : Failure)
      {a b c : Option (List (Event F))} → IsNoPassword failed → Did a b (IsLoaded path before)
      → Notes b c (ReadPassword (Err failed)) → Did a c (IsNotTested path failed)
  not_typed path before failed why first typed = record {
    events = ReadStore path (Ok (text_of before)) ∷ ReadPassword (Err failed) ∷ [];
    are = inr (inl (why, text_of before, refl));
    does = Does-then (noted first.events first.are.1 first.does) typed;
  }

  pub not_loaded_later : {Z : Type 0} (path password : List ℕ) (before : PasswordStore Z)
      (failed : Failure) {a b c d : Option (List (Event F))} → Did a b (IsLoaded path before)
      → Notes b c (ReadPassword (Ok password)) → Did c d (IsNotLoaded path failed)
      → Did a d (IsNotTested path failed)
  not_loaded_later path password before failed first typed last = record {
    events = ReadStore path (Ok (text_of before)) ∷ ReadPassword (Ok password) ∷ last.events;
    are = inr (inr (text_of before, password, last.events, last.are, refl));
    does = Does-then (noted first.events first.are.1 first.does) (Does-then typed last.does);
  }

  told_why : {Z : Type 0} (path name : List ℕ) (meter : Counts) (r : Result (Unit {0}) Failure)
      (failed : Failure) (events : List (Event F)) → IsErrAnd r (λ e. e ≡ failed)
      → IsNotTested path failed events → IsVerified Z path name meter meter r events
  told_why path name meter (Ok u) failed events exits why = absurd exits
  told_why path name meter (Err e) failed events exits why =
      inr (refl, subst (λ (e : Failure). IsNotTested path e events) (sym exits) why)

  pub not_verified : {Z : Type 0} (path name : List ℕ) (meter : Counts)
      (r : Result (Unit {0}) Failure) (failed : Failure) {a b : Option (List (Event F))}
      → IsErrAnd r (λ e. e ≡ failed) → Did a b (IsNotTested path failed)
      → Did a b (IsVerified Z path name meter meter r)
  not_verified {Z = Z} path name meter r failed exits =
      Did-map (IsNotTested path failed) (IsVerified Z path name meter meter r)
      (λ events. told_why path name meter r failed events exits)

  pub not_verified_seen : {Z : Type 0} (path name : List ℕ) (meter : Counts)
      (r : Result (Unit {0}) Failure) (failed : Failure) {a b : Option (List (Event F))}
      → IsErrAnd r (λ e. e ≡ failed) → Did a b (IsNotSeen path failed)
      → Did a b (IsVerified Z path name meter meter r)
  not_verified_seen {Z = Z} path name meter r failed exits =
      Did-map (IsNotSeen path failed) (IsVerified Z path name meter meter r)
      (λ events h. told_why path name meter r failed events exits (inl h))

  -- a file is looked at

  seen_missing : (path : List ℕ) (failed : Failure) (events : List (Event F))
      → failed ≡ failure.NoFile → IsNotSeen path failed events → IsFirstLook path true events
  seen_missing path failed events missing (inl (is, none)) = absurd cc
  seen_missing path failed events missing (inr (inl (why, one))) =
      one ∙ ap (λ (e : Failure). ReadStore path (Err e) ∷ []) missing
  seen_missing path failed events missing (inr (inr (text, why, one))) =
      absurd (no_store_other text failed why missing)

  looked_missing : (path : List ℕ) (failed : Failure) {a b : Option (List (Event F))}
      → failed ≡ failure.NoFile → Did a b (IsNotSeen path failed) → Did a b (IsFirstLook path true)
  looked_missing path failed missing =
      Did-map (IsNotSeen path failed) (IsFirstLook path true)
      (λ events. seen_missing path failed events missing)

  pub looked_or_failed : (path : List ℕ) (failed : Failure) (r : Result Bool Failure)
      {a b : Option (List (Event F))}
      → IfOk r (λ missing. (missing ≡ true) × (failed ≡ failure.NoFile))
      → Did a b (IsNotSeen path failed) → IfOk r (λ missing. Did a b (IsFirstLook path missing))
  looked_or_failed path failed r told seen =
      if_ok_weaker r (λ missing h. rw h.0 (looked_missing path failed h.1 seen)) told

  pub looked_there : {Z : Type 0} (path : List ℕ) (store : PasswordStore Z)
      {a b c : Option (List (Event F))} → Did a b (IsLoaded path store)
      → Notes b c (LookForLinks path (Ok tt)) → Did a c (IsFirstLook path false)
  looked_there path store first single = record {
    events = ReadStore path (Ok (text_of store)) ∷ LookForLinks path (Ok tt) ∷ [];
    are = (text_of store, refl);
    does = Does-then (noted first.events first.are.1 first.does) single;
  }

  pub not_looked_seen : (path : List ℕ) (failed : Failure) {a b : Option (List (Event F))}
      → failed ≢ failure.NoFile → Did a b (IsNotSeen path failed)
      → Did a b (IsNotLooked path failed)
  not_looked_seen path failed other =
      Did-map (IsNotSeen path failed) (IsNotLooked path failed) (λ events h. inl (other, h))

  pub not_looked_links : {Z : Type 0} (path : List ℕ) (store : PasswordStore Z) (failed : Failure)
      {a b c : Option (List (Event F))} → IsNotReplaceable failed → Did a b (IsLoaded path store)
      → Notes b c (LookForLinks path (Err failed)) → Did a c (IsNotLooked path failed)
  not_looked_links path store failed why first links = record {
    events = ReadStore path (Ok (text_of store)) ∷ LookForLinks path (Err failed) ∷ [];
    are = inr (why, text_of store, refl);
    does = Does-then (noted first.events first.are.1 first.does) links;
  }

  links_gone : (path text : List ℕ) (failed : Failure) → IsVanished {F = F} path
      (ReadStore path (Ok text) ∷ LookForLinks path (Err failed) ∷ []) → failed ≡ failure.NoFile
  links_gone path text failed (inl (read, is)) = cc
  links_gone path text failed (inr (read, password, is)) = absurd cc

  links_are : (path text : List ℕ) (failed : Failure) → IsGone {F = F} path failed
      (ReadStore path (Ok text) ∷ LookForLinks path (Err failed) ∷ [])
  links_are path text failed = (
    λ same. inl (
      text,
      ap (λ (e : Failure). ReadStore path (Ok text) ∷ LookForLinks path (Err e)
          ∷ []) same,
    ),
    links_gone path text failed,
  )

  -- what follows the first look is refused

  not_begun_behind : (path : List ℕ) (missing : Bool) (failed : Failure)
      {a b c : Option (List (Event F))} → Did a b (IsFirstLook path missing)
      → Did b c (IsNotGoneOn path missing failed) → Did a c (IsNotBegun path failed)
  not_begun_behind path missing failed first last = record {
    events = first.events ++ last.events;
    are = inr (missing, first.events, last.events, first.are, last.are, refl);
    does = Does-then first.does last.does;
  }

  pub not_begun_looked : (path : List ℕ) (failed : Failure) {a b : Option (List (Event F))}
      → Did a b (IsNotLooked path failed) → Did a b (IsNotBegun path failed)
  not_begun_looked path failed =
      Did-map (IsNotLooked path failed) (IsNotBegun path failed) (λ events h. inl h)

  pub not_begun_password : (path : List ℕ) (missing : Bool) (failed : Failure)
      {a b c : Option (List (Event F))} → IsNoPassword failed
      → Did a b (IsFirstLook path missing) → Notes b c (ReadPassword (Err failed))
      → Did a c (IsNotBegun path failed)
  not_begun_password path missing failed why first typed =
      not_begun_behind path missing failed first
      (record { events = ReadPassword (Err failed) ∷ []; are = inl (why, refl); does = typed })

  pub not_begun_lock : (path password : List ℕ) (missing : Bool) (failed : Failure)
      {a b c d : Option (List (Event F))} → IsNotLocked failed
      → Did a b (IsFirstLook path missing) → Notes b c (ReadPassword (Ok password))
      → Notes c d (LockStore path false) → Did a d (IsNotBegun path failed)
  not_begun_lock path password missing failed why first typed locked =
      not_begun_behind path missing failed first (record {
        events = ReadPassword (Ok password) ∷ LockStore path false ∷ [];
        are = inr (inl (why, password, refl));
        does = Does-then typed locked;
      })

  pub not_begun_taken : (path password : List ℕ) (missing : Bool) (failed : Failure)
      {a b c d e : Option (List (Event F))} → Did a b (IsFirstLook path missing)
      → Notes b c (ReadPassword (Ok password)) → Notes c d (LockStore path true)
      → Did d e (IsNotTaken path missing failed) → Did a e (IsNotBegun path failed)
  not_begun_taken path password missing failed first typed locked taken =
      not_begun_behind path missing failed first (record {
        events = ReadPassword (Ok password) ∷ LockStore path true ∷ taken.events;
        are = inr (inr (password, taken.events, taken.are, refl));
        does = Does-then typed (Does-then locked taken.does);
      })

  -- the store under the lock

  pub taken_text : {Z : Type 0} (path text : List ℕ) (given : Option NonZeroU32) (missing : Bool)
      (store : PasswordStore Z) {a b : Option (List (Event F))}
      → Notes a b (ReadToReplace path (Ok text)) → text_of store ≡ text → IsStore store
      → Did a b (IsTaken path given missing store)
  taken_text path text given missing store notes is valid = record {
    events = ReadToReplace path (Ok text) ∷ [];
    are = inl (valid, ap (λ (t : List ℕ). ReadToReplace path (Ok t) ∷ []) (sym is));
    does = notes;
  }

  pub taken_new : {Z : Type 0} (path : List ℕ) (given : Option NonZeroU32) (missing : Bool)
      (failed : Failure) (store : PasswordStore Z) (salt : List ℕ) (iterations : NonZeroU32)
      {a b c : Option (List (Event F))} → missing ≡ true → failed ≡ failure.NoFile
      → Notes a b (ReadToReplace path (Err failed)) → IsDrawn b c salt
      → IsCountOfNew given iterations → store ≡ new_store salt iterations
      → Did a c (IsTaken path given missing store)
  taken_new path given missing failed store salt iterations {a = a} {b = b} missed none notes
      drawn count is = record {
        events = _;
        are = inr (record {
          salt = salt;
          iterations = iterations;
          missed = missed;
          len = drawn.len;
          count = count;
          is = is;
          are = refl;
        });
        does = Does-then
            (subst (λ (e : Failure). Notes a b (ReadToReplace path (Err e))) none notes)
            drawn.drawn;
      }

  pub not_taken_read : (path : List ℕ) (missing : Bool) (failed : Failure)
      {a b : Option (List (Event F))} → IsNotReplaceable failed
      → ¬ ((missing ≡ true) × (failed ≡ failure.NoFile))
      → Notes a b (ReadToReplace path (Err failed)) → Did a b (IsNotTaken path missing failed)
  not_taken_read path missing failed why other notes =
      record { events = _; are = inl (why, other, refl); does = notes }

  pub not_taken_text : (path text : List ℕ) (missing : Bool) (failed : Failure)
      {a b : Option (List (Event F))} → IsNoStore text failed
      → Notes a b (ReadToReplace path (Ok text)) → Did a b (IsNotTaken path missing failed)
  not_taken_text path text missing failed why notes =
      record { events = _; are = inr (inl (text, why, refl)); does = notes }

  pub not_taken_salt : (path : List ℕ) (missing : Bool) (none failed : Failure)
      {a b c : Option (List (Event F))} → missing ≡ true → none ≡ failure.NoFile
      → Notes a b (ReadToReplace path (Err none)) → IsNotDrawn b c failed
      → Did a c (IsNotTaken path missing failed)
  not_taken_salt path missing none failed {a = a} {b = b} missed is notes drawn = record {
    events = _;
    are = inr (inr (missed, drawn.why, drawn.bytes, refl));
    does = Does-then (subst (λ (e : Failure). Notes a b (ReadToReplace path (Err e))) is notes)
        drawn.refused;
  }

  pub not_taken : (path : List ℕ) (missing : Bool) (failed other : Failure)
      {a b c : Option (List (Event F))} → IsNotReplaceable failed
      → Notes a b (ReadToReplace path (Err failed))
      → ((other ≡ failed) × (¬ ((missing ≡ true) × (failed ≡ failure.NoFile))) × (c ≡ b))
      ⊎ ((missing ≡ true) × (failed ≡ failure.NoFile) × IsNotDrawn b c other)
      → Did a c (IsNotTaken path missing other)
  not_taken path missing failed other why notes (inl (is, unmade, same)) =
      Did-still (IsNotTaken path missing other)
      (rw is (not_taken_read path missing failed why unmade notes)) same
  not_taken path missing failed other why notes (inr (missed, none, drawn)) =
      not_taken_salt path missing failed other missed none notes drawn

  not_taken_other : (path : List ℕ) (failed : Failure) (events : List (Event F))
      → IsNotTaken path true failed events → failed ≢ failure.NoFile
  not_taken_other path failed events (inl (why, other, is)) = λ same. other (refl, same)
  not_taken_other path failed events (inr (inl (text, why, is))) = no_store_other text failed why
  not_taken_other path failed events (inr (inr (missed, why, salt, is))) = salt_other failed why

  read_gone : (path read typed : List ℕ) (failed : Failure) (events : List (Event F))
      → events ≡ ReadToReplace path (Err failed) ∷ []
      → IsVanished path (ReadStore path (Ok read) ∷ LookForLinks path (Ok tt)
      ∷ ReadPassword (Ok typed) ∷ LockStore path true ∷ events) → failed ≡ failure.NoFile
  read_gone path read typed failed events are (inl (text, is)) = absurd cc
  read_gone path read typed failed events are (inr (text, password, is)) = cc

  -- what was there is gone exactly if it isn't read for that reason
  gone_are : (path read typed : List ℕ) (failed : Failure) (events : List (Event F))
      → IsNotTaken path false failed events
      → IsGone path failed (ReadStore path (Ok read) ∷ LookForLinks path (Ok tt)
      ∷ ReadPassword (Ok typed) ∷ LockStore path true ∷ events)
  gone_are path read typed failed events (inl (why, other, are)) = (
    λ same. inr (
      read,
      typed,
      ap (λ (es : List (Event F)). ReadStore path (Ok read) ∷ LookForLinks path (Ok tt)
          ∷ ReadPassword (Ok typed) ∷ LockStore path true ∷ es)
          (are ∙ ap (λ (e : Failure). ReadToReplace path (Err e) ∷ []) same),
    ),
    read_gone path read typed failed events are,
  )
  gone_are path read typed failed events (inr (inl (now, why, are))) =
      rw are (not_gone path failed _ (no_store_other now failed why)
      (still_there path read typed now []))
  gone_are path read typed failed events (inr (inr (missed, why, salt, are))) = absurd cc

  -- a file that vanished, if no store is read

  gone_looked : (path : List ℕ) (failed : Failure) (events : List (Event F))
      → IsNotLooked path failed events → IsGone path failed events
  gone_looked path failed events (inl (other, seen)) =
      not_gone path failed events other (refused_at_once path failed events seen)
  gone_looked path failed events (inr (why, text, are)) = rw are (links_are path text failed)

  not_gone_on_other : (path : List ℕ) (failed : Failure) (last : List (Event F))
      → IsNotGoneOn path true failed last → failed ≢ failure.NoFile
  not_gone_on_other path failed last (inl (why, are)) = no_password_other failed why
  not_gone_on_other path failed last (inr (inl (why, typed, are))) = not_locked_other failed why
  not_gone_on_other path failed last (inr (inr (typed, taken, is, are))) =
      not_taken_other path failed taken is

  gone_there : (path read : List ℕ) (failed : Failure) (last : List (Event F))
      → IsNotGoneOn path false failed last
      → IsGone path failed (ReadStore path (Ok read) ∷ LookForLinks path (Ok tt) ∷ last)
  gone_there path read failed last (inl (why, are)) =
      rw are (not_gone path failed _ (no_password_other failed why) (no_password path read failed))
  gone_there path read failed last (inr (inl (why, typed, are))) =
      rw are (not_gone path failed _ (not_locked_other failed why) (no_lock path read typed))
  gone_there path read failed last (inr (inr (typed, taken, is, are))) =
      rw are (gone_are path read typed failed taken is)

  gone_behind : (path : List ℕ) (missing : Bool) (failed : Failure) (first last : List (Event F))
      → IsFirstLook path missing first → IsNotGoneOn path missing failed last
      → IsGone path failed (first ++ last)
  gone_behind path true failed first last looked is =
      rw looked (not_gone path failed _ (not_gone_on_other path failed last is)
      (missing_from_the_first path _))
  gone_behind path false failed first last (read, are) is =
      rw are (gone_there path read failed last is)

  gone_not_begun : (path : List ℕ) (failed : Failure) (events : List (Event F))
      → IsNotBegun path failed events → IsGone path failed events
  gone_not_begun path failed events (inl looked) = gone_looked path failed events looked
  gone_not_begun path failed events (inr (missing, first, last, looked, is, are)) =
      rw are (gone_behind path missing failed first last looked is)

  -- all is read

  pub begun : {Z : Type 0} (path password : List ℕ) (given : Option NonZeroU32) (missing : Bool)
      (store : PasswordStore Z) {a b c d e : Option (List (Event F))}
      → Did a b (IsFirstLook path missing) → Notes b c (ReadPassword (Ok password))
      → Notes c d (LockStore path true) → Did d e (IsTaken path given missing store)
      → Did a e (IsBegun path given password store)
  begun path password given missing store first typed locked taken = record {
    events = first.events ++ ReadPassword (Ok password) ∷ LockStore path true ∷ taken.events;
    are = record {
      missing = missing;
      first = first.events;
      taken = taken.events;
      looked = first.are;
      is_taken = taken.are;
      are = refl;
    };
    does = Does-then first.does (Does-then typed (Does-then locked taken.does));
  }

  taken_not_gone : {Z : Type 0} (path read typed : List ℕ) (given : Option NonZeroU32)
      (store : PasswordStore Z) (taken rest : List (Event F)) → IsTaken path given false store taken
      → ¬ IsVanished path (ReadStore path (Ok read) ∷ LookForLinks path (Ok tt)
      ∷ ReadPassword (Ok typed) ∷ LockStore path true ∷ (taken ++ rest))
  taken_not_gone path read typed given store taken rest (inl (valid, are)) =
      rw are (still_there path read typed (text_of store) rest)
  taken_not_gone path read typed given store taken rest (inr new) =
      let missed = new.missed in absurd cc

  begun_not_gone : {Z : Type 0} (path typed : List ℕ) (given : Option NonZeroU32) (missing : Bool)
      (store : PasswordStore Z) (first taken rest : List (Event F))
      → IsFirstLook path missing first → IsTaken path given missing store taken
      → ¬ IsVanished path ((first ++ ReadPassword (Ok typed) ∷ LockStore path true ∷ taken)
      ++ rest)
  begun_not_gone path typed given true store first taken rest looked is =
      rw looked (missing_from_the_first path _)
  begun_not_gone path typed given false store first taken rest (read, are) is =
      rw are (taken_not_gone path read typed given store taken rest is)

  begun_is_there : {Z : Type 0} (path password : List ℕ) (given : Option NonZeroU32)
      (store : PasswordStore Z) (failed : Failure) (begun rest : List (Event F))
      → failed ≢ failure.NoFile → IsBegun path given password store begun
      → IsGone path failed (begun ++ rest)
  begun_is_there path password given store failed begun rest other is =
      rw is.are (not_gone path failed _ other (begun_not_gone path password given is.missing store
      is.first is.taken rest is.looked is.is_taken))

  -- a file that vanished, if a password is not set
  gone_not_set : {Z : Type 0} (path name : List ℕ) (given : Option NonZeroU32) (failed : Failure)
      (events : List (Event F)) → IsNotSet Z path name given failed events
      → IsGone path failed events
  gone_not_set path name given failed events (inl is) = gone_not_begun path failed events is
  gone_not_set path name given failed events (inr (inl (password, store, begun, why))) =
      subst (λ (es : List (Event F)). IsGone path failed es) (append-nil events)
      (begun_is_there path password given store failed events []
      (not_admitted_other name password store failed why) begun)
  gone_not_set path name given failed events (inr (inr is)) =
      rw is.are (begun_is_there path is.password given is.store failed is.begun is.last
      (not_replaced_other path _ failed is.last is.holds) is.is_begun)

  did_gone : {Z : Type 0} (path name : List ℕ) (given : Option NonZeroU32) (failed : Failure)
      {a b : Option (List (Event F))} → Did a b (IsNotSet Z path name given failed)
      → Did a b (IsGone path failed)
  did_gone {Z = Z} path name given failed =
      Did-map (IsNotSet Z path name given failed) (IsGone path failed)
      (λ events h. gone_not_set path name given failed events h)

  pub gone_if_not_set : (Z : Type 0) (path name : List ℕ) {T : Type 0} (r : Result T Failure)
      (a b : Option (List (Event F))) (given : Option NonZeroU32)
      → IfErr r (λ failed. Did a b (IsNotSet Z path name given failed))
      → IfErr r (λ failed. Did a b (IsGone path failed))
  gone_if_not_set Z path name r a b given =
      if_err_weaker r (λ failed. did_gone path name given failed)

  pub not_set_begun : {Z : Type 0} (path name : List ℕ) (given : Option NonZeroU32)
      (failed : Failure) {a b : Option (List (Event F))} → Did a b (IsNotBegun path failed)
      → Did a b (IsNotSet Z path name given failed)
  not_set_begun {Z = Z} path name given failed =
      Did-map (IsNotBegun path failed) (IsNotSet Z path name given failed) (λ events h. inl h)

  pub not_set_admitted : {Z : Type 0} (path name password : List ℕ) (given : Option NonZeroU32)
      (store : PasswordStore Z) (failed : Failure) {a b : Option (List (Event F))}
      → Did a b (IsBegun path given password store)
      → (Err failed ≡ told (admission name password))
      ⊎ IsErrOf {T = Unit {0}} (Err failed) failure.Memory
      → (IsErrOf {T = Unit {0}} (Err failed) failure.Memory
      → (admission name password ≡ Ok tt) × (knows store name ≡ false))
      → Did a b (IsNotSet Z path name given failed)
  not_set_admitted path name password given store failed first (inl told) memory = record {
    events = first.events;
    are = inr (inl (password, store, first.are, inl told));
    does = first.does;
  }
  not_set_admitted path name password given store failed first (inr is) memory = record {
    events = first.events;
    are = inr (inl (
      password,
      store,
      first.are,
      inr (cc, (memory is).0, (memory is).1),
    ));
    does = first.does;
  }

  set_then : {Z : Type 0} (path name password : List ℕ) (given : Option NonZeroU32)
      (store set : PasswordStore Z) (P : PasswordStore Z → List (Event F) → Type 0)
      {a b c : Option (List (Event F))}
      → set ≡ with_password (with_given store given) name password
      → Did a b (IsBegun path given password store) → Did b c (P set)
      → Did a c (IsSetThen Z path name given P)
  set_then path name password given store set P is first last = record {
    events = first.events ++ last.events;
    are = record {
      password = password;
      store = store;
      begun = first.events;
      last = last.events;
      is_begun = first.are;
      holds = subst (λ s. P s last.events) is last.are;
      are = refl;
    };
    does = Does-then first.does last.does;
  }

  pub not_set_replaced : {Z : Type 0} (path name password : List ℕ) (given : Option NonZeroU32)
      (store set : PasswordStore Z) (failed : Failure) {a b c : Option (List (Event F))}
      → set ≡ with_password (with_given store given) name password
      → Did a b (IsBegun path given password store)
      → Did b c (IsNotReplaced path (text_of set) failed)
      → Did a c (IsNotSet Z path name given failed)
  not_set_replaced {Z = Z} path name password given store set failed is first last =
      Did-map (IsSetThen Z path name given
      (λ set last. IsNotReplaced path (text_of set) failed last))
      (IsNotSet Z path name given failed) (λ events h. inr (inr h))
      (set_then path name password given store set
      (λ set last. IsNotReplaced path (text_of set) failed last) is first last)

  pub is_set : {Z : Type 0} (path name password : List ℕ) (given : Option NonZeroU32)
      (store set : PasswordStore Z) (count : NonZeroU32) {a b c : Option (List (Event F))}
      → Did a b (IsBegun path given password store)
      → set ≡ with_password (with_given store given) name password
      → Did b c (IsReplaced path (text_of set) true) → count ≡ asked_iterations set
      → Did a c (IsSet Z path name given count)
  is_set path name password given store set count first is replaced counted =
      set_then path name password given store set
      (λ set last. IsReplaced path (text_of set) true last × (count ≡ asked_iterations set)) is
      first (record {
        events = replaced.events;
        are = (replaced.are, counted);
        does = replaced.does;
      })

  -- a name is removed

  opened_are : {Z : Type 0} (path : List ℕ) (given : Option NonZeroU32) (store : PasswordStore Z)
      (taken : List (Event F)) → IsTaken path given false store taken
      → IsOpened path store (LookForLinks path (Ok tt) ∷ LockStore path true ∷ taken)
  opened_are path given store taken (inl (valid, are)) = (
    valid,
    ap (λ (es : List (Event F)). LookForLinks path (Ok tt) ∷ LockStore path true ∷ es) are,
  )
  opened_are path given store taken (inr new) = let missed = new.missed in absurd cc

  pub opened : {Z : Type 0} (path : List ℕ) (given : Option NonZeroU32) (store : PasswordStore Z)
      {a b c d : Option (List (Event F))} → Notes a b (LookForLinks path (Ok tt))
      → Notes b c (LockStore path true) → Did c d (IsTaken path given false store)
      → Did a d (IsOpened path store)
  opened path given store single locked taken = record {
    events = LookForLinks path (Ok tt) ∷ LockStore path true ∷ taken.events;
    are = opened_are path given store taken.events taken.are;
    does = Does-then single (Does-then locked taken.does);
  }

  pub not_opened_links : (path : List ℕ) (failed : Failure) {a b : Option (List (Event F))}
      → IsNotReplaceable failed → Notes a b (LookForLinks path (Err failed))
      → Did a b (IsNotOpened path failed)
  not_opened_links path failed why single =
      record { events = _; are = inl (why, refl); does = single }

  pub not_opened_lock : (path : List ℕ) (failed : Failure) {a b c : Option (List (Event F))}
      → IsNotLocked failed → Notes a b (LookForLinks path (Ok tt))
      → Notes b c (LockStore path false) → Did a c (IsNotOpened path failed)
  not_opened_lock path failed why single locked = record {
    events = LookForLinks path (Ok tt) ∷ LockStore path false ∷ [];
    are = inr (inl (why, refl));
    does = Does-then single locked;
  }

  pub not_opened_taken : (path : List ℕ) (failed : Failure) {a b c d : Option (List (Event F))}
      → Notes a b (LookForLinks path (Ok tt)) → Notes b c (LockStore path true)
      → Did c d (IsNotTaken path false failed) → Did a d (IsNotOpened path failed)
  not_opened_taken path failed single locked taken = record {
    events = LookForLinks path (Ok tt) ∷ LockStore path true ∷ taken.events;
    are = inr (inr (taken.events, taken.are, refl));
    does = Does-then single (Does-then locked taken.does);
  }

  pub not_removed_opened : {Z : Type 0} (path name : List ℕ) (failed : Failure)
      {a b : Option (List (Event F))} → Did a b (IsNotOpened path failed)
      → Did a b (IsNotRemoved Z path name failed)
  not_removed_opened {Z = Z} path name failed =
      Did-map (IsNotOpened path failed) (IsNotRemoved Z path name failed) (λ events h. inl h)

  pub not_removed_unknown : {Z : Type 0} (path name : List ℕ) (store : PasswordStore Z)
      (failed : Failure) {a b : Option (List (Event F))} → failed ≡ failure.NoSuchName
      → knows store name ≡ false → Did a b (IsOpened path store)
      → Did a b (IsNotRemoved Z path name failed)
  not_removed_unknown path name store failed why unknown first = record {
    events = first.events;
    are = inr (inl (why, store, unknown, first.are));
    does = first.does;
  }

  removed_then : {Z : Type 0} (path name : List ℕ) (store left : PasswordStore Z)
      (P : (text : List ℕ) → List (Event F) → Type 0) {a b c : Option (List (Event F))}
      → left ≡ without store name → knows store name ≡ true → Did a b (IsOpened path store)
      → Did b c (P (text_of left)) → Did a c (IsRemovedThen Z path name P)
  removed_then path name store left P is known first last = record {
    events = first.events ++ last.events;
    are = record {
      store = store;
      opened = first.events;
      last = last.events;
      is_opened = first.are;
      known = known;
      holds = subst (λ s. P (text_of s) last.events) is last.are;
      are = refl;
    };
    does = Does-then first.does last.does;
  }

  pub removed : {Z : Type 0} (path name : List ℕ) (store left : PasswordStore Z)
      {a b c : Option (List (Event F))} → left ≡ without store name
      → knows store name ≡ true → Did a b (IsOpened path store)
      → Did b c (IsReplaced path (text_of left) true) → Did a c (IsRemoved Z path name)
  removed path name store left is known first last =
      removed_then path name store left (λ text last. IsReplaced path text true last) is known
      first last

  pub not_removed_replaced : {Z : Type 0} (path name : List ℕ) (store left : PasswordStore Z)
      (failed : Failure) {a b c : Option (List (Event F))} → left ≡ without store name
      → knows store name ≡ true → Did a b (IsOpened path store)
      → Did b c (IsNotReplaced path (text_of left) failed)
      → Did a c (IsNotRemoved Z path name failed)
  not_removed_replaced {Z = Z} path name store left failed is known first last =
      Did-map (IsRemovedThen Z path name (λ text last. IsNotReplaced path text failed last))
      (IsNotRemoved Z path name failed) (λ events h. inr (inr h))
      (removed_then path name store left (λ text last. IsNotReplaced path text failed last) is
      known first last)
