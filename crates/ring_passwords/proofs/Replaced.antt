-- SPDX-License-Identifier: ISC
-- The steps by which a file is replaced.
use Rattle.std.proofs.Common.{◌≡◌, ◌++◌, ◌+◌, ◌∙◌, ℕ, Bool, true, false, List, [], ◌∷◌, Option}
use Rattle.std.proofs.Common.{Some, None, Result, Ok, Err, ap, append_assoc, arith, inl, inr}
use Rattle.std.proofs.Common.{length, refl, subst, sym}
use Rattle.std.proofs.lemmas.List.{append-nil, length_push}
use Rattle.std.proofs.lemmas.List.Elements.{All-append, All-cons, All-head, All-nil, All-push}
use Rattle.std.proofs.lemmas.List.Elements.{All-tail}
use Rattle.std.specs.List.{flat_map}
use Rattle.std.specs.Prelude.{All, bit_and}
use Rattle.std.specs.declared.io.Error.{Error}
use Rattle.ring_passwords.specs.Event.{Event, OpenFolder, ListNames, NextName, Random, Create}
use Rattle.ring_passwords.specs.Event.{Lock, SetMode, SetOwner, Write, Look, Sync, Rename, Remove}
use Rattle.ring_passwords.specs.Event.{Did, Notes}
use Rattle.ring_passwords.specs.Folder.{folder_in}
use Rattle.ring_passwords.specs.Replace.{AreVisited, IsAccess, IsAccessGiven, IsBefore}
use Rattle.ring_passwords.specs.Replace.{IsLookedAt, IsMade, IsNotMade, IsNotReplaced}
use Rattle.ring_passwords.specs.Replace.{IsReadLookedAt}
use Rattle.ring_passwords.specs.Replace.{IsOwnerGiven, IsPut, IsReplaced, IsStopped, IsSwept}
use Rattle.ring_passwords.specs.Replace.{IsModeRefused, IsNoAccess, IsNotPut, IsRefused, IsVisit}
use Rattle.ring_passwords.specs.Replace.{granted}
use Rattle.ring_passwords.specs.Temporary.{temporary_of}
use Rattle.ring_passwords.specs.declared.failure.Failure.{Failure}
use Rattle.ring_passwords.specs.declared.failure.Failure.TheVariants as failure
use Rattle.ring_passwords.specs.declared.failure.Step.TheVariants as step
use Rattle.ring_passwords.specs.declared.steps.Access.{Access}
use Rattle.ring_passwords.specs.Failure.{IsOfSystem}
use Rattle.ring_passwords.proofs.Events.{Did-map, Did-more, Did-one, Did-stops, Does-then}

pub granted_is : {T : Type 0} (r : Result T Error) (value : T) → Ok value ≡ granted r
    → r ≡ Ok value
granted_is (Ok v) value same = cc
granted_is (Err e) value same = absurd cc

module _ {F : Type 0} where
  -- the owner is refused, and the group is given or not
  pub owner_given : (new : F) (old : Access) (given : Bool) {a b c : Option (List (Event F))}
      → Notes a b (SetOwner new (Some old.user) old.group false)
      → Notes b c (SetOwner new None old.group given) → Did a c (IsOwnerGiven new old given)
  owner_given new old true first second =
      record { events = _; are = inr refl; does = Does-then first second }
  owner_given new old false first second =
      record { events = _; are = refl; does = Does-then first second }

  pub access_given : (new : F) (old : Access) {a b c : Option (List (Event F))}
      → Did a b (IsOwnerGiven new old true)
      → Notes b c (SetMode new (bit_and old.mode 0o777) true) → Did a c (IsAccessGiven new old)
  access_given new old did notes = record {
    events = did.events ++ SetMode new (bit_and old.mode 0o777) true ∷ [];
    are = inr (did.events, did.are, refl);
    does = Does-then did.does notes;
  }

  pub access_kept : (path : List ℕ) (new : F) (old : Access) {a b c : Option (List (Event F))}
      → Notes a b (Look path (Some (Some old))) → Did b c (IsAccessGiven new old)
      → Did a c (IsAccess path new)
  access_kept path new old notes did = record {
    events = Look path (Some (Some old)) ∷ did.events;
    are = inr (old, did.events, did.are, refl);
    does = Does-then notes did.does;
  }

  -- it gets them not

  pub mode_refused : (new : F) (old : Access) {a b c : Option (List (Event F))}
      → Did a b (IsOwnerGiven new old true)
      → Notes b c (SetMode new (bit_and old.mode 0o777) false) → Did a c (IsModeRefused new old)
  mode_refused new old did notes = record {
    events = did.events ++ SetMode new (bit_and old.mode 0o777) false ∷ [];
    are = (did.events, did.are, refl);
    does = Does-then did.does notes;
  }

  pub not_looked_at : (path : List ℕ) (new : F) {a b : Option (List (Event F))}
      → Notes a b (Look path None) → Did a b (IsNoAccess path new)
  not_looked_at path new notes = record { events = _; are = inl refl; does = notes }

  pub access_refused : (path : List ℕ) (new : F) (old : Access) {a b c : Option (List (Event F))}
      → Notes a b (Look path (Some (Some old))) → Did b c (IsModeRefused new old)
      → Did a c (IsNoAccess path new)
  access_refused path new old notes did = record {
    events = Look path (Some (Some old)) ∷ did.events;
    are = inr (old, did.events, did.are, refl);
    does = Does-then notes did.does;
  }

  -- a new file is put, or is not

  pub is_put : (path new_path : List ℕ) (new : F) (text : List ℕ)
      {a b c d e f g : Option (List (Event F))} → Notes a b (Lock new true)
      → Notes b c (SetMode new 0o600 true) → Notes c d (Write new text true)
      → Did d e (IsAccess path new) → Notes e f (Sync new true)
      → Notes f g (Rename new_path path true) → Did a g (IsPut path new_path new text)
  is_put path new_path new text locked private written access synced renamed = record {
    events = _;
    are = record { access = access.events; kept = access.are; are = refl };
    does = Does-then (Does-then locked (Does-then private (Does-then written access.does)))
        (Does-then synced renamed);
  }

  pub not_locked : (path new_path : List ℕ) (new : F) (text : List ℕ)
      {a b : Option (List (Event F))} → Notes a b (Lock new false)
      → Did a b (IsNotPut path new_path new text)
  not_locked path new_path new text locked =
      record { events = _; are = inl refl; does = locked }

  pub not_private : (path new_path : List ℕ) (new : F) (text : List ℕ)
      {a b c : Option (List (Event F))} → Notes a b (Lock new true)
      → Notes b c (SetMode new 0o600 false) → Did a c (IsNotPut path new_path new text)
  not_private path new_path new text locked private =
      record { events = _; are = inr (inl refl); does = Does-then locked private }

  pub not_written : (path new_path : List ℕ) (new : F) (text : List ℕ)
      {a b c d : Option (List (Event F))} → Notes a b (Lock new true)
      → Notes b c (SetMode new 0o600 true) → Notes c d (Write new text false)
      → Did a d (IsNotPut path new_path new text)
  not_written path new_path new text locked private written = record {
    events = _;
    are = inr (inr (inl refl));
    does = Does-then locked (Does-then private written);
  }

  pub not_given : (path new_path : List ℕ) (new : F) (text : List ℕ)
      {a b c d e : Option (List (Event F))} → Notes a b (Lock new true)
      → Notes b c (SetMode new 0o600 true) → Notes c d (Write new text true)
      → Did d e (IsNoAccess path new) → Did a e (IsNotPut path new_path new text)
  not_given path new_path new text locked private written access = record {
    events = _;
    are = inr (inr (inr (inl (access.events, access.are, refl))));
    does = Does-then locked (Does-then private (Does-then written access.does));
  }

  pub not_on_disk : (path new_path : List ℕ) (new : F) (text : List ℕ)
      {a b c d e f : Option (List (Event F))} → Notes a b (Lock new true)
      → Notes b c (SetMode new 0o600 true) → Notes c d (Write new text true)
      → Did d e (IsAccess path new) → Notes e f (Sync new false)
      → Did a f (IsNotPut path new_path new text)
  not_on_disk path new_path new text locked private written access synced = record {
    events = _;
    are = inr (inr (inr (inr (inl (access.events, access.are, refl)))));
    does = Does-then (Does-then locked (Does-then private (Does-then written access.does))) synced;
  }

  pub not_renamed : (path new_path : List ℕ) (new : F) (text : List ℕ)
      {a b c d e f g : Option (List (Event F))} → Notes a b (Lock new true)
      → Notes b c (SetMode new 0o600 true) → Notes c d (Write new text true)
      → Did d e (IsAccess path new) → Notes e f (Sync new true)
      → Notes f g (Rename new_path path false) → Did a g (IsNotPut path new_path new text)
  not_renamed path new_path new text locked private written access synced renamed = record {
    events = _;
    are = inr (inr (inr (inr (inr (access.events, access.are, refl)))));
    does = Does-then (Does-then locked (Does-then private (Does-then written access.does)))
        (Does-then synced renamed);
  }

  looked_before : (path name : List ℕ) (events : List (Event F)) → IsLookedAt path name events
      → All (IsBefore path) events
  looked_before path name events (inl (left, done, is)) =
      subst (All (IsBefore path)) (sym is)
      (All-cons (IsBefore path) _ [] left (All-nil (IsBefore path)))
  looked_before path name events (inr (other, is)) =
      subst (All (IsBefore path)) (sym is) (All-nil (IsBefore path))

  read_before : (path : List ℕ) (name : Option (List ℕ)) (events : List (Event F))
      → IsReadLookedAt path name events → All (IsBefore path) events
  read_before path (Some name) events looked = looked_before path name events looked
  read_before path None events is =
      subst (All (IsBefore path)) (sym is) (All-nil (IsBefore path))

  visit_before : (path : List ℕ) (events : List (Event F)) → IsVisit path events
      → All (IsBefore path) events
  visit_before path events (name, looked, is_looked, is) =
      subst (All (IsBefore path)) (sym is)
      (All-cons (IsBefore path) (NextName (Some name)) looked tt
      (read_before path name looked is_looked))

  visits_before : (path : List ℕ) (visits : List (List (Event F))) → All (IsVisit path) visits
      → All (IsBefore path) (flat_map (λ visit. visit) visits)
  visits_before path [] each = All-nil (IsBefore path)
  visits_before path (visit ∷ visits) each =
      All-append (IsBefore path) visit _
      (visit_before path visit (All-head (IsVisit path) visit visits each))
      (visits_before path visits (All-tail (IsVisit path) visit visits each))

  visited_before : (path folder : List ℕ) (count : ℕ) (events : List (Event F))
      → AreVisited path folder count events → All (IsBefore path) events
  visited_before path folder count events visited =
      subst (All (IsBefore path)) (sym visited.are)
      (All-cons (IsBefore path) _ _ tt (visits_before path visited.visits visited.each))

  pub swept_before : (path folder : List ℕ) (events : List (Event F))
      → IsSwept path folder events → All (IsBefore path) events
  swept_before path folder events (inl is) =
      subst (All (IsBefore path)) (sym is)
      (All-cons (IsBefore path) _ [] tt (All-nil (IsBefore path)))
  swept_before path folder events (inr (inl (count, seen, are, is))) =
      subst (All (IsBefore path)) (sym is)
      (All-append (IsBefore path) seen (NextName None ∷ [])
      (visited_before path folder count seen are)
      (All-cons (IsBefore path) _ [] tt (All-nil (IsBefore path))))
  swept_before path folder events (inr (inr are)) = visited_before path folder _ events are

  -- the names of a folder are read

  pub listed : (path folder : List ℕ) {a b : Option (List (Event F))}
      → Notes a b (ListNames folder true) → Did a b (AreVisited path folder 0)
  listed path folder notes = record {
    events = ListNames folder true ∷ [];
    are = record { visits = []; each = All-nil (IsVisit path); len = refl; are = refl };
    does = notes;
  }

  joined_push : (visits : List (List (Event F))) (last : List (Event F))
      → flat_map (λ v. v) (visits ++ last ∷ []) ≡ flat_map (λ v. v) visits ++ last
  joined_push [] last = append-nil last
  joined_push (first ∷ visits) last =
      ap (λ es. first ++ es) (joined_push visits last)
      ∙ sym (append_assoc first (flat_map (λ v. v) visits) last)

  pub visited : (path folder : List ℕ) (count : ℕ) {a b c : Option (List (Event F))}
      → Did a b (AreVisited path folder count) → Did b c (IsVisit path)
      → Did a c (AreVisited path folder (count + 1))
  visited path folder count before next =
      let are = before.are in record {
        events = before.events ++ next.events;
        are = record {
          visits = are.visits ++ next.events ∷ [];
          each = All-push (IsVisit path) are.visits next.events are.each next.are;
          len = omega (arith, length_push are.visits next.events, are.len);
          are = ap (λ es. es ++ next.events) are.are
              ∙ ap (λ es. ListNames folder true ∷ es)
              (sym (joined_push are.visits next.events));
        };
        does = Does-then before.does next.does;
      }

  pub visit : (path : List ℕ) (name : Option (List ℕ)) {a b c : Option (List (Event F))}
      → Notes a b (NextName (Some name)) → Did b c (IsReadLookedAt path name)
      → Did a c (IsVisit path)
  visit path name notes looked = record {
    events = NextName (Some name) ∷ looked.events;
    are = (name, looked.events, looked.are, refl);
    does = Does-then notes looked.does;
  }

  pub swept_to_the_last : (path folder : List ℕ) (count : ℕ) {a b c : Option (List (Event F))}
      → Did a b (AreVisited path folder count) → Notes b c (NextName None)
      → Did a c (IsSwept path folder)
  swept_to_the_last path folder count seen notes = record {
    events = seen.events ++ NextName None ∷ [];
    are = inr (inl (count, seen.events, seen.are, refl));
    does = Does-then seen.does notes;
  }

  pub not_listed : (path folder : List ℕ) {a b : Option (List (Event F))}
      → Notes a b (ListNames folder false) → Did a b (IsSwept path folder)
  not_listed path folder notes = record { events = _; are = inl refl; does = notes }

  -- the folder is open, and what was left is removed
  pub opened_before : (path : List ℕ) (folder : F) {a b c : Option (List (Event F))}
      → Notes a b (OpenFolder (folder_in path) (Some folder))
      → Did b c (IsSwept path (folder_in path)) → Did a c (All (IsBefore path))
  opened_before path folder opened swept =
      Did-more (IsBefore path) (Did-one (IsBefore path) opened tt)
      (Did-map (IsSwept path (folder_in path)) (All (IsBefore path))
      (swept_before path (folder_in path)) swept)

  pub is_made : (path : List ℕ) (folder : F) (new_path : List ℕ) (new : F) (random : List ℕ)
      {a b c d e : Option (List (Event F))} → length random ≡ 8
      → new_path ≡ temporary_of path random
      → Notes a b (OpenFolder (folder_in path) (Some folder))
      → Did b c (IsSwept path (folder_in path)) → Notes c d (Random random true)
      → Notes d e (Create new_path (Some new))
      → Did a e (IsMade path folder new_path new)
  is_made path folder new_path new random len named opened swept drawn made = record {
    events = _;
    are = record {
      random = random;
      swept = swept.events;
      len = len;
      named = named;
      is_swept = swept.are;
      are = refl;
    };
    does = Does-then (Does-then opened swept.does) (Does-then drawn made);
  }

  -- the system refuses a step before the file is made
  pub not_made : (path : List ℕ) (failed : Failure) {a b : Option (List (Event F))}
      → IsOfSystem step.Replace failed → Did a b (IsStopped (IsBefore path))
      → Did a b (IsNotMade path failed)
  not_made path failed is =
      Did-map (IsStopped (IsBefore path)) (IsNotMade path failed)
      (λ events stopped. inr (is, stopped))

  -- a step is refused before the file is made
  pub stops_before : (path : List ℕ) {T : Type 0} (r : Result T Error) (failed : Failure)
      (event : Result T Error → Event F) {a b c : Option (List (Event F))}
      → Err failed ≡ granted r → Did a b (All (IsBefore path)) → Notes b c (event r)
      → ((e : Error) → IsBefore path (event (Err e))) → ((e : Error) → IsRefused (event (Err e)))
      → Did a c (IsNotMade path failed)
  stops_before path (Ok v) failed event same before notes kind refused = absurd cc
  stops_before path (Err e) failed event same before notes kind refused =
      not_made path failed (e, cc)
      (Did-stops (IsBefore path) before notes (kind e) (refused e))

  pub no_memory : (path : List ℕ) (failed : Failure) {a b : Option (List (Event F))}
      → failed ≡ failure.Memory → Did a b (All (IsBefore path)) → Did a b (IsNotMade path failed)
  no_memory path failed is =
      Did-map (All (IsBefore path)) (IsNotMade path failed) (λ events before. inl (is, before))

  pub is_replaced : (path text : List ℕ) (folder : F) (new_path : List ℕ) (new : F)
      (synced : Bool) {a b c d : Option (List (Event F))}
      → Did a b (IsMade path folder new_path new) → Did b c (IsPut path new_path new text)
      → Notes c d (Sync folder synced) → Did a d (IsReplaced path text synced)
  is_replaced path text folder new_path new synced made put notes = record {
    events = _;
    are = record {
      folder = folder;
      new_path = new_path;
      new = new;
      made = made.events;
      put = put.events;
      is_made = made.are;
      is_put = put.are;
      are = refl;
    };
    does = Does-then (Does-then made.does put.does) notes;
  }

  pub is_undone : (path text : List ℕ) (failed : Failure) (folder : F) (new_path : List ℕ) (new : F)
      (removed : Bool) {a b c d : Option (List (Event F))} → IsOfSystem step.Replace failed
      → Did a b (IsMade path folder new_path new)
      → Did b c (IsNotPut path new_path new text)
      → Notes c d (Remove new_path removed) → Did a d (IsNotReplaced path text failed)
  is_undone path text failed folder new_path new removed is made tried notes = record {
    events = _;
    are = inr (inl (
      is,
      record {
        folder = folder;
        new_path = new_path;
        new = new;
        made = made.events;
        tried = tried.events;
        removed = removed;
        is_made = made.are;
        is_not_put = tried.are;
        are = refl;
      },
    ));
    does = Does-then (Does-then made.does tried.does) notes;
  }

  pub not_synced : (path text : List ℕ) (failed : Failure) {a b : Option (List (Event F))}
      → IsOfSystem step.SyncFolder failed → Did a b (IsReplaced path text false)
      → Did a b (IsNotReplaced path text failed)
  not_synced path text failed is =
      Did-map (IsReplaced path text false) (IsNotReplaced path text failed)
      (λ events replaced. inr (inr (is, replaced)))

  pub not_replaced : (path text : List ℕ) (failed : Failure) {a b : Option (List (Event F))}
      → Did a b (IsNotMade path failed) → Did a b (IsNotReplaced path text failed)
  not_replaced path text failed =
      Did-map (IsNotMade path failed) (IsNotReplaced path text failed) (λ events made. inl made)
