-- SPDX-License-Identifier: ISC
-- The folder is told as not synced only where the file was replaced.
use Rattle.std.proofs.Common.{◌≡◌, ℕ, Bool, false, List, Option, Result, Ok, Err, inl, inr}
use Rattle.std.specs.Prelude.{◌⊎◌, IfErr}
use Rattle.std.specs.declared.num.NonZeroU32.{NonZeroU32}
use Rattle.ring_store.specs.Store.{admission, knows}
use Rattle.ring_store.specs.declared.error.StoreError.{StoreError}
use Rattle.ring_store.specs.declared.error.StoreError.TheVariants as refused
use Rattle.ring_store.specs.declared.store.PasswordStore.{PasswordStore}
use Rattle.ring_passwords.specs.Change.{IsNoStore, told}
use Rattle.ring_passwords.specs.Event.{Event, Did}
use Rattle.ring_passwords.specs.Failure.{IsNoPassword, IsNotLocked, IsNotRead, IsNotReplaceable}
use Rattle.ring_passwords.specs.Failure.{IsOfSystem}
use Rattle.ring_passwords.specs.Order.{IsNotBegun, IsNotGoneOn, IsNotLoaded, IsNotLooked}
use Rattle.ring_passwords.specs.Order.{IsNotOpened, IsNotRemoved, IsNotSeen, IsNotSet, IsNotTaken}
use Rattle.ring_passwords.specs.Order.{IsRemovedUnsynced, IsSetUnsynced}
use Rattle.ring_passwords.specs.Replace.{IsNotReplaced, IsReplaced}
use Rattle.ring_passwords.specs.declared.failure.Failure.{Failure}
use Rattle.ring_passwords.specs.declared.failure.Failure.TheVariants as failure
use Rattle.ring_passwords.specs.declared.failure.Step.TheVariants as step
use Rattle.ring_passwords.proofs.Events.{Did-map, if_err_weaker}

abbrev IsOfSync : Failure → Type 0
IsOfSync failed = IsOfSystem step.SyncFolder failed

-- failures that aren't that of the folder's sync

not_read : (failed : Failure) → IsNotRead failed → ¬ IsOfSync failed
not_read failed (inl is) (error, unsynced) = absurd cc
not_read failed (inr (inl is)) (error, unsynced) = absurd cc
not_read failed (inr (inr (inl is))) (error, unsynced) = absurd cc
not_read failed (inr (inr (inr (inl is)))) (error, unsynced) = absurd cc
not_read failed (inr (inr (inr (inr (inl is))))) (error, unsynced) = absurd cc
not_read failed (inr (inr (inr (inr (inr (other, is)))))) (error, unsynced) = absurd cc

not_replaceable : (failed : Failure) → IsNotReplaceable failed → ¬ IsOfSync failed
not_replaceable failed (inl is) (error, unsynced) = absurd cc
not_replaceable failed (inr why) unsynced = not_read failed why unsynced

no_store : (text : List ℕ) (failed : Failure) → IsNoStore text failed → ¬ IsOfSync failed
no_store text failed (inl (is, none)) (error, unsynced) = absurd cc
no_store text failed (inr (is, some)) (error, unsynced) = absurd cc

no_password : (failed : Failure) → IsNoPassword failed → ¬ IsOfSync failed
no_password failed (inl is) (error, unsynced) = absurd cc
no_password failed (inr (inl is)) (error, unsynced) = absurd cc
no_password failed (inr (inr (other, is))) (error, unsynced) = absurd cc

not_locked : (failed : Failure) → IsNotLocked failed → ¬ IsOfSync failed
not_locked failed (inl is) (error, unsynced) = absurd cc
not_locked failed (inr (inl is)) (error, unsynced) = absurd cc
not_locked failed (inr (inr (inl is))) (error, unsynced) = absurd cc
not_locked failed (inr (inr (inr (other, is)))) (error, unsynced) = absurd cc

refused_by_store : (refusal : StoreError) (failed : Failure) → Err failed ≡ told (Err refusal)
    → ¬ IsOfSync failed
refused_by_store refused.BadName failed is (error, unsynced) = absurd cc
refused_by_store refused.TooLong failed is (error, unsynced) = absurd cc
refused_by_store refused.WrongUsernameOrPassword failed is (error, unsynced) = absurd cc
refused_by_store refused.Memory failed is (error, unsynced) = absurd cc

told_by_store : (r : Result (Unit {0}) StoreError) (failed : Failure) → Err failed ≡ told r
    → ¬ IsOfSync failed
told_by_store (Ok u) failed is (error, unsynced) = absurd cc
told_by_store (Err refusal) failed is unsynced = refused_by_store refusal failed is unsynced

not_admitted : {Z : Type 0} (name password : List ℕ) (store : PasswordStore Z)
    (failed : Failure) → (Err failed ≡ told (admission name password))
    ⊎ ((failed ≡ failure.Memory) × (admission name password ≡ Ok tt)
    × (knows store name ≡ false)) → ¬ IsOfSync failed
not_admitted name password store failed (inl is) unsynced =
    told_by_store (admission name password) failed is unsynced
not_admitted name password store failed (inr (is, admitted, new)) (error, unsynced) = absurd cc

-- nor is one before the file is replaced

module _ {F : Type 0} (path : List ℕ) (failed : Failure) where
  not_loaded : (events : List (Event F)) → IsNotLoaded path failed events → ¬ IsOfSync failed
  not_loaded events (inl (why, are)) unsynced = not_read failed why unsynced
  not_loaded events (inr (text, why, are)) unsynced = no_store text failed why unsynced

  not_seen : (events : List (Event F)) → IsNotSeen path failed events → ¬ IsOfSync failed
  not_seen events (inl (is, none)) (error, unsynced) = absurd cc
  not_seen events (inr loaded) unsynced = not_loaded events loaded unsynced

  not_looked : (events : List (Event F)) → IsNotLooked path failed events → ¬ IsOfSync failed
  not_looked events (inl (other, seen)) unsynced = not_seen events seen unsynced
  not_looked events (inr (why, text, are)) unsynced = not_replaceable failed why unsynced

  not_taken : (missing : Bool) (events : List (Event F)) → IsNotTaken path missing failed events
      → ¬ IsOfSync failed
  not_taken missing events (inl (why, other, are)) unsynced = not_replaceable failed why unsynced
  not_taken missing events (inr (inl (text, why, are))) unsynced =
      no_store text failed why unsynced
  not_taken missing events (inr (inr (missed, (other, is), salt, are))) (error, unsynced) =
      absurd cc

  not_gone_on : (missing : Bool) (events : List (Event F))
      → IsNotGoneOn path missing failed events → ¬ IsOfSync failed
  not_gone_on missing events (inl (why, are)) unsynced = no_password failed why unsynced
  not_gone_on missing events (inr (inl (why, typed, are))) unsynced =
      not_locked failed why unsynced
  not_gone_on missing events (inr (inr (typed, taken, is, are))) unsynced =
      not_taken missing taken is unsynced

  not_begun : (events : List (Event F)) → IsNotBegun path failed events → ¬ IsOfSync failed
  not_begun events (inl looked) unsynced = not_looked events looked unsynced
  not_begun events (inr (missing, first, last, looked, is, are)) unsynced =
      not_gone_on missing last is unsynced

  not_opened : (events : List (Event F)) → IsNotOpened path failed events → ¬ IsOfSync failed
  not_opened events (inl (why, are)) unsynced = not_replaceable failed why unsynced
  not_opened events (inr (inl (why, are))) unsynced = not_locked failed why unsynced
  not_opened events (inr (inr (taken, is, are))) unsynced = not_taken false taken is unsynced

  replaced : (text : List ℕ) (events : List (Event F)) → IsOfSync failed
      → IsNotReplaced path text failed events → IsReplaced path text false events
  replaced text events (error, unsynced) (inl (inl (is, before))) = absurd cc
  replaced text events (error, unsynced) (inl (inr ((other, is), stopped))) = absurd cc
  replaced text events (error, unsynced) (inr (inl ((other, is), undone))) = absurd cc
  replaced text events unsynced (inr (inr (is, done))) = done

module _ {F : Type 0} (path : List ℕ) (Z : Type 0) (name : List ℕ) where
  set_unsynced : (given : Option NonZeroU32) (failed : Failure) (events : List (Event F))
      → IsOfSync failed → IsNotSet Z path name given failed events
      → IsSetUnsynced Z path name given events
  set_unsynced given failed events unsynced (inl begun) =
      absurd (not_begun path failed events begun unsynced)
  set_unsynced given failed events unsynced (inr (inl (password, store, begun, why))) =
      absurd (not_admitted name password store failed why unsynced)
  set_unsynced given failed events unsynced (inr (inr set)) = record {
    password = set.password;
    store = set.store;
    begun = set.begun;
    last = set.last;
    is_begun = set.is_begun;
    holds = replaced path failed _ set.last unsynced set.holds;
    are = set.are;
  }

  removed_unsynced : (failed : Failure) (events : List (Event F)) → IsOfSync failed
      → IsNotRemoved Z path name failed events → IsRemovedUnsynced Z path name events
  removed_unsynced failed events unsynced (inl opened) =
      absurd (not_opened path failed events opened unsynced)
  removed_unsynced failed events (error, unsynced) (inr (inl (is, store, unknown, opened))) =
      absurd cc
  removed_unsynced failed events unsynced (inr (inr removed)) = record {
    store = removed.store;
    opened = removed.opened;
    last = removed.last;
    is_opened = removed.is_opened;
    known = removed.known;
    holds = replaced path failed _ removed.last unsynced removed.holds;
    are = removed.are;
  }

  not_set_unsynced : (given : Option NonZeroU32) (failed : Failure)
      {a b : Option (List (Event F))} → Did a b (IsNotSet Z path name given failed)
      → IsOfSync failed → Did a b (IsSetUnsynced Z path name given)
  not_set_unsynced given failed did unsynced =
      Did-map (IsNotSet Z path name given failed) (IsSetUnsynced Z path name given)
      (λ events. set_unsynced given failed events unsynced) did

  not_removed_unsynced : (failed : Failure) {a b : Option (List (Event F))}
      → Did a b (IsNotRemoved Z path name failed) → IsOfSync failed
      → Did a b (IsRemovedUnsynced Z path name)
  not_removed_unsynced failed did unsynced =
      Did-map (IsNotRemoved Z path name failed) (IsRemovedUnsynced Z path name)
      (λ events. removed_unsynced failed events unsynced) did

  module _ {T : Type 0} (r : Result T Failure) (a b : Option (List (Event F))) where
    pub unsynced_if_not_set : (given : Option NonZeroU32)
        → IfErr r (λ failed. Did a b (IsNotSet Z path name given failed))
        → IfErr r (λ failed. IsOfSync failed → Did a b (IsSetUnsynced Z path name given))
    unsynced_if_not_set given =
        if_err_weaker r (λ failed. not_set_unsynced given failed)

    pub unsynced_if_not_removed
        : IfErr r (λ failed. Did a b (IsNotRemoved Z path name failed))
        → IfErr r (λ failed. IsOfSync failed → Did a b (IsRemovedUnsynced Z path name))
    unsynced_if_not_removed = if_err_weaker r (λ failed. not_removed_unsynced failed)
