-- SPDX-License-Identifier: ISC
use Rattle.std.proofs.Common.{◌≡◌, Bool, Global, Result, Err, Ok, true}
use Rattle.std.specs.Prelude.{◌≢◌, IfErr, IfOk, IsErrOf}
use Rattle.ring_store.specs.declared.store.PasswordStore.{PasswordStore}
use Rattle.ring_passwords.specs.Order.{IsNotLooked}
use Rattle.ring_passwords.specs.declared.failure.Failure.{Failure}
use Rattle.ring_passwords.specs.declared.failure.Failure.TheVariants as failure
use Rattle.ring_passwords.proofs.Events.{Did-exits, Did-if-err, absurd_same}
use Rattle.ring_passwords.proofs.Ordered.{looked_or_failed, looked_there, not_looked_links}
use Rattle.ring_passwords.proofs.Ordered.{not_looked_seen}
use Rattle.ring_passwords.proofs.order.is_missing.Goals as goal

pub returns-in_err-look_for_links-in-Ok-clause-refused
    : goal.returns-in_err-look_for_links-in-Ok-clause-refused
returns-in_err-look_for_links-in-Ok-clause-refused g c =
    let path = c.args.path.now in
    Did-exits (IsNotLooked path) c.from_residual.result c.from_residual.ensures.1
    (λ failed is. rw is (not_looked_links path c.in-Ok._store _
    c.in_err-look_for_links-in-Ok.ensures.failure c.in-Ok.ensures.ok
    c.in_err-look_for_links-in-Ok.ensures.noted))

pub returns-in_ok-look_for_links-in-Ok-clause-ok
    : goal.returns-in_ok-look_for_links-in-Ok-clause-ok
returns-in_ok-look_for_links-in-Ok-clause-ok g c =
    looked_there c.args.path.now c.in-Ok._store c.in-Ok.ensures.ok
    c.in_ok-look_for_links-in-Ok.ensures.noted

pub returns-in-Err-clause-ok : goal.returns-in-Err-clause-ok
returns-in-Err-clause-ok g c =
    looked_or_failed c.args.path.now c.in-Err.failure c.missing_or.result c.missing_or.ensures.ok
    c.in-Err.ensures.refused

pub returns-in-Err-clause-refused : goal.returns-in-Err-clause-refused
returns-in-Err-clause-refused g c =
    let path = c.args.path.now in
    Did-if-err (IsNotLooked path) c.missing_or.result
    (λ other h. rw h.0 (not_looked_seen path c.in-Err.failure h.1 c.in-Err.ensures.refused))
    c.missing_or.ensures.refused

pub returns-in_err-look_for_links-in-Ok-clause-bad_name
    : goal.returns-in_err-look_for_links-in-Ok-clause-bad_name
returns-in_err-look_for_links-in-Ok-clause-bad_name g c = λ bad.
    let told = (c.in-Ok.ensures.bad_name bad).0 in (absurd cc, absurd_same _ _ cc)

pub returns-in_ok-look_for_links-in-Ok-clause-bad_name
    : goal.returns-in_ok-look_for_links-in-Ok-clause-bad_name
returns-in_ok-look_for_links-in-Ok-clause-bad_name g c = λ bad.
    let told = (c.in-Ok.ensures.bad_name bad).0 in (absurd cc, absurd_same _ _ cc)

named : (r : Result Bool Failure) (failed : Failure)
    → IfOk r (λ missing. (missing ≡ true) × (failed ≡ failure.NoFile))
    → IfErr r (λ other. (other ≡ failed) × (failed ≢ failure.NoFile))
    → IsErrOf {T = PasswordStore Global} (Err failed) failure.BadName
    → IsErrOf r failure.BadName
named (Ok missing) failed ok refused is = let gone = ok.1 in absurd cc
named (Err other) failed ok refused is = let same = refused.0 in cc

pub returns-in-Err-clause-bad_name : goal.returns-in-Err-clause-bad_name
returns-in-Err-clause-bad_name g c = λ bad.
    let told = c.in-Err.ensures.bad_name bad in (
      named c.missing_or.result c.in-Err.failure c.missing_or.ensures.ok
          c.missing_or.ensures.refused told.0,
      told.1,
    )
