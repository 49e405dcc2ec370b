-- SPDX-License-Identifier: ISC
use Rattle.std.proofs.Common.{◌≡◌, ℕ, List, Option, Result, Ok, Err, ap, false, inl, inr, length}
use Rattle.std.specs.Prelude.{◌⊎◌, IfErr, IsErrAnd, IsErrOf}
use Rattle.ring_password_hash.specs.Scheme.{kept_len_of}
use Rattle.ring_password_hash.specs.Stored.{can_keep}
use Rattle.ring_password_hash.specs.declared.scheme.Scheme.{Scheme}
use Rattle.ring_passwords.specs.Encode.{IsNotEncoded, IsNotWritten, IsPrepared, salt_of}
use Rattle.ring_passwords.specs.Event.{Event}
use Rattle.ring_passwords.specs.Failure.{IsOfSystem}
use Rattle.ring_passwords.specs.Salt.{IsDrawn, IsNotDrawn}
use Rattle.ring_passwords.specs.declared.failure.Failure.{Failure}
use Rattle.ring_passwords.specs.declared.failure.Failure.TheVariants as failure
use Rattle.ring_passwords.specs.declared.failure.Step.TheVariants.{Salt, WriteText}
use Rattle.ring_passwords.proofs.Events.{exits_with, if_err_weaker}
use Rattle.ring_passwords.proofs.encode.encode_salted.Goals as goal

not_encoded : (k : Scheme) (password random : List ℕ) (r : Result (Unit {0}) Failure)
    → IfErr r (λ failed. (failed ≡ failure.NeedsPreparation) ⊎ (failed ≡ failure.TooLong)
    ⊎ IsOfSystem WriteText failed)
    → (IsErrOf r failure.NeedsPreparation → ¬ (IsPrepared k password))
    → (IsErrOf r failure.TooLong → can_keep k (length password) (length (salt_of k random))
    (kept_len_of k) ≡ false) → IfErr r (IsNotEncoded k password random)
not_encoded k password random (Ok u) why unprepared too_long = tt
not_encoded k password random (Err failed) (inl is) unprepared too_long =
    inl (is, unprepared (ap (λ (e : Failure). Err e) is))
not_encoded k password random (Err failed) (inr (inl is)) unprepared too_long =
    inr (inl (is, too_long (ap (λ (e : Failure). Err e) is)))
not_encoded k password random (Err failed) (inr (inr is)) unprepared too_long = inr (inr is)

module _ {F : Type 0} {old new : Option (List (Event F))} (k : Scheme) (password : List ℕ) where
  not_drawn : {T : Type 0} {R : Failure → Type 0} (r : Result T Failure) → IsErrAnd r R
      → ((failed : Failure) → R failed → IsNotDrawn old new failed)
      → IfErr r (IsNotWritten old new k password)
  not_drawn (Ok v) exits why = tt
  not_drawn (Err failed) exits why = inl (why failed exits)

  not_written : (salt : List ℕ) (r : Result (Unit {0}) Failure) → IsDrawn old new salt
      → IfErr r (IsNotEncoded k password salt) → IfErr r (IsNotWritten old new k password)
  not_written salt (Ok u) drawn why = tt
  not_written salt (Err failed) drawn why = inr (salt, drawn, why)

pub returns-in_err-random-clause-refused : goal.returns-in_err-random-clause-refused
returns-in_err-random-clause-refused g c =
    not_drawn c.args.scheme c.args.password.now c.from_residual.result c.from_residual.ensures.1
    (λ failed is. rw is c.in_err-random.ensures.refused)

pub returns-clause-refused : goal.returns-clause-refused
returns-clause-refused g c =
    let k = c.args.scheme in
    let password = c.args.password.now in
    let e = c.encode.ensures in
    not_written k password _ c.encode.result c.in_ok-random.ensures.ok
    (not_encoded k password _ c.encode.result e.failure e.unprepared.0 e.too_long)

not_drawn_not_cut : (failed : Failure) → IsOfSystem Salt failed → ¬ IsOfSystem WriteText failed
not_drawn_not_cut failed (other, is) (error, cut) = absurd cc

pub returns-in_err-random-clause-cut : goal.returns-in_err-random-clause-cut
returns-in_err-random-clause-cut g c =
    exits_with _ c.from_residual.result c.from_residual.ensures.1
    (λ failed is. λ cut.
    absurd (not_drawn_not_cut failed (rw is c.in_err-random.ensures.refused.why) cut))

pub returns-clause-cut : goal.returns-clause-cut
returns-clause-cut g c =
    if_err_weaker c.encode.result
    (λ failed cut. λ is. (c.in_ok-random.random, c.in_ok-random.ensures.ok, cut is))
    c.encode.ensures.cut
