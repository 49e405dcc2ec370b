-- SPDX-License-Identifier: ISC
-- What is done, one step after another.
use Rattle.std.proofs.Common.{◌≡◌, ◌++◌, ◌∙◌, Bool, true, false, List, [], ◌∷◌, Option, Some}
use Rattle.std.proofs.Common.{Result, Ok, Err, ap, append_assoc, refl, subst, sym}
use Rattle.std.proofs.lemmas.List.{append-nil}
use Rattle.std.proofs.lemmas.List.Elements.{All-append, All-cons, All-nil}
use Rattle.std.specs.Prelude.{All, IfErr, IfOk, IsErrAnd, IsErrOf, OnErr, OnOk, is_ok}
use Rattle.ring_passwords.specs.Event.{Event, Did, Does, Notes}
use Rattle.ring_passwords.specs.Replace.{IsRefused, IsStopped}
use Rattle.ring_passwords.specs.declared.failure.Failure.{Failure}

pub on_err : {T E X : Type 0} (r : Result T E) → X → OnErr r X
on_err (Ok v) x = tt
on_err (Err e) x = x

pub on_ok_weaker : {T E X Y : Type 0} (r : Result T E) → (X → Y) → OnOk r X → OnOk r Y
on_ok_weaker (Ok v) weaker h = weaker h
on_ok_weaker (Err e) weaker h = tt

pub if_err_weaker : {T E : Type 0} {P Q : E → Type 0} (r : Result T E) → ((e : E) → P e → Q e)
    → IfErr r P → IfErr r Q
if_err_weaker (Ok v) weaker h = tt
if_err_weaker (Err e) weaker h = weaker e h

pub if_ok_weaker : {T E : Type 0} {P Q : T → Type 0} (r : Result T E) → ((v : T) → P v → Q v)
    → IfOk r P → IfOk r Q
if_ok_weaker (Ok v) weaker h = weaker v h
if_ok_weaker (Err e) weaker h = tt

-- of what never is, two values are the same
pub absurd_same : {X : Type 0} (x y : X) → ⊥ → x ≡ y
absurd_same x y never = absurd never

-- what the exit of a `?` returns
pub exits_with : {T E : Type 0} (Q : E → Type 0) {P : E → Type 0} (r : Result T E) → IsErrAnd r P
    → ((e : E) → P e → Q e) → IfErr r Q
exits_with Q (Ok v) h weaker = tt
exits_with Q (Err e) h weaker = weaker e h

pub exits_as : {T U : Type 0} (r : Result T Failure) (failed other : Failure)
    → IsErrAnd r (λ e. e ≡ failed) → IsErrOf {T = U} (Err failed) other → IsErrOf r other
exits_as (Ok v) failed other h is = absurd h
exits_as (Err e) failed other h is = cc

module _ {F : Type 0} where
  pub Does-nothing : (old : Option (List (Event F))) → Does old old []
  Does-nothing old = record {
    known = λ before is. is ∙ ap (λ (es : List (Event F)). Some es) (sym (append-nil before));
  }

  pub Does-then : {a b c : Option (List (Event F))} {xs ys : List (Event F)} → Does a b xs
      → Does b c ys → Does a c (xs ++ ys)
  Does-then {xs = xs} {ys = ys} first next = record {
    known = λ before is. next.known (before ++ xs) (first.known before is)
        ∙ ap (λ (es : List (Event F)). Some es) (append_assoc before xs ys);
  }

  pub Did-still : (P : List (Event F) → Type 0) {a b c : Option (List (Event F))} → Did a b P
      → c ≡ b → Did a c P
  Did-still P {a = a} did same = subst (λ c. Did a c P) (sym same) did

  pub Did-map : (P Q : List (Event F) → Type 0) {a b : Option (List (Event F))}
      → ((events : List (Event F)) → P events → Q events) → Did a b P → Did a b Q
  Did-map P Q weaker did =
      record { events = did.events; are = weaker did.events did.are; does = did.does }

  -- what the exit of a `?` returns
  pub Did-exits : (Q : Failure → List (Event F) → Type 0) {T : Type 0} {R : Failure → Type 0}
      {a b : Option (List (Event F))} (r : Result T Failure) → IsErrAnd r R
      → ((failed : Failure) → R failed → Did a b (Q failed))
      → IfErr r (λ failed. Did a b (Q failed))
  Did-exits Q (Ok v) h weaker = tt
  Did-exits Q (Err failed) h weaker = weaker failed h

  -- of an error, or of a value, what is said of the steps before it, in other words
  pub Did-if-err : (Q : Failure → List (Event F) → Type 0) {T : Type 0} {P : Failure → Type 0}
      {a b : Option (List (Event F))} (r : Result T Failure)
      → ((failed : Failure) → P failed → Did a b (Q failed)) → IfErr r P
      → IfErr r (λ failed. Did a b (Q failed))
  Did-if-err Q r weaker = if_err_weaker r weaker

  pub Did-if-ok : {T : Type 0} (Q : T → List (Event F) → Type 0) {P : T → Type 0}
      {a b : Option (List (Event F))} (r : Result T Failure)
      → ((v : T) → P v → Did a b (Q v)) → IfOk r P → IfOk r (λ v. Did a b (Q v))
  Did-if-ok Q r weaker = if_ok_weaker r weaker

  -- what a step notes by whether it was done
  pub on_ok_noted : {T E X : Type 0} (r : Result T E) (event : Bool → Event F)
      (a b : Option (List (Event F))) → Notes a b (event (is_ok r))
      → (Notes a b (event true) → X) → OnOk r X
  on_ok_noted (Ok v) event a b notes then = then notes
  on_ok_noted (Err e) event a b notes then = tt

  pub on_err_noted : {T E X : Type 0} (r : Result T E) (event : Bool → Event F)
      (a b : Option (List (Event F))) → Notes a b (event (is_ok r))
      → (Notes a b (event false) → X) → OnErr r X
  on_err_noted (Ok v) event a b notes then = tt
  on_err_noted (Err e) event a b notes then = then notes

  module _ (P : Event F → Type 0) where
    pub Did-nothing : (a : Option (List (Event F))) → Did a a (All P)
    Did-nothing a = record { events = []; are = All-nil P; does = Does-nothing a }

    pub Did-one : {a b : Option (List (Event F))} {e : Event F} → Notes a b e → P e
        → Did a b (All P)
    Did-one {e = e} notes kind =
        record { events = e ∷ []; are = All-cons P e [] kind (All-nil P); does = notes }

    -- steps of one kind, and then more of it
    pub Did-more : {a b c : Option (List (Event F))} → Did a b (All P) → Did b c (All P)
        → Did a c (All P)
    Did-more first next = record {
      events = first.events ++ next.events;
      are = All-append P first.events next.events first.are next.are;
      does = Does-then first.does next.does;
    }

    -- steps of one kind, and then one that is refused
    pub Did-stops : {a b c : Option (List (Event F))} {e : Event F} → Did a b (All P)
        → Notes b c e → P e → IsRefused e → Did a c (IsStopped P)
    Did-stops {e = e} first notes kind refused = record {
      events = first.events ++ e ∷ [];
      are = record {
        front = first.events;
        last = e;
        done = first.are;
        kind = kind;
        refused = refused;
        are = refl;
      };
      does = Does-then first.does notes;
    }
