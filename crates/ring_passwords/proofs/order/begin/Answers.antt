-- SPDX-License-Identifier: ISC
use Rattle.ring_passwords.specs.Order.{IsNotBegun}
use Rattle.ring_passwords.proofs.Events.{Did-exits, absurd_same, exits_as}
use Rattle.ring_passwords.proofs.Ordered.{begun, not_begun_lock, not_begun_looked}
use Rattle.ring_passwords.proofs.Ordered.{not_begun_password, not_begun_taken}
use Rattle.ring_passwords.specs.declared.failure.Failure.TheVariants as failure
use Rattle.ring_passwords.proofs.order.begin.Goals as goal

pub returns-in_err-was_missing-clause-refused : goal.returns-in_err-was_missing-clause-refused
returns-in_err-was_missing-clause-refused g c =
    let path = c.args.path.now in
    Did-exits (IsNotBegun path) c.from_residual.result c.from_residual.ensures.1
    (λ failed is. rw is (not_begun_looked path _ c.in_err-was_missing.ensures.refused))

pub returns-in_err-password-clause-refused : goal.returns-in_err-password-clause-refused
returns-in_err-password-clause-refused g c =
    let path = c.args.path.now in
    Did-exits (IsNotBegun path) c.from_residual-in_err-password.result
    c.from_residual-in_err-password.ensures.1
    (λ failed is. rw is (not_begun_password path _ _ c.in_err-password.ensures.failure
    c.in_ok-was_missing.ensures.ok c.in_err-password.ensures.noted))

pub returns-in_err-file-clause-refused : goal.returns-in_err-file-clause-refused
returns-in_err-file-clause-refused g c =
    let path = c.args.path.now in
    Did-exits (IsNotBegun path) c.from_residual-in_err-file.result
    c.from_residual-in_err-file.ensures.1
    (λ failed is. rw is (not_begun_lock path _ _ _ c.in_err-file.ensures.refused.0
    c.in_ok-was_missing.ensures.ok c.in_ok-password.ensures.noted c.in_err-file.ensures.refused.1))

pub returns-in_err-store-clause-refused : goal.returns-in_err-store-clause-refused
returns-in_err-store-clause-refused g c =
    let path = c.args.path.now in
    let is_path = c.in_ok-file.ensures.ok.0 in
    let taken = rw is_path at c.in_err-store.ensures.refused in
    Did-exits (IsNotBegun path) c.from_residual-in_err-store.result
    c.from_residual-in_err-store.ensures.1
    (λ failed is. rw is (not_begun_taken path _ _ _ c.in_ok-was_missing.ensures.ok
    c.in_ok-password.ensures.noted c.in_ok-file.ensures.ok.1 taken))

pub returns-clause-ok : goal.returns-clause-ok
returns-clause-ok g c =
    let path = c.args.path.now in
    let is_path = c.in_ok-file.ensures.ok.0 in
    let taken = rw is_path at c.in_ok-store.ensures.ok in (
      is_path,
      begun path _ c.args.given _ c.in_ok-store.store c.in_ok-was_missing.ensures.ok
          c.in_ok-password.ensures.noted c.in_ok-file.ensures.ok.1 taken,
    )

pub returns-in_err-was_missing-clause-bad_name : goal.returns-in_err-was_missing-clause-bad_name
returns-in_err-was_missing-clause-bad_name g c = λ bad.
    let told = c.in_err-was_missing.ensures.bad_name bad in
    (exits_as c.from_residual.result _ failure.BadName c.from_residual.ensures.1 told.0, told.1)

pub returns-in_err-password-clause-bad_name : goal.returns-in_err-password-clause-bad_name
returns-in_err-password-clause-bad_name g c = λ bad.
    let told = (c.in_ok-was_missing.ensures.bad_name bad).0 in (absurd cc, absurd_same _ _ cc)

pub returns-in_err-file-clause-bad_name : goal.returns-in_err-file-clause-bad_name
returns-in_err-file-clause-bad_name g c = λ bad.
    let told = (c.in_ok-was_missing.ensures.bad_name bad).0 in (absurd cc, absurd_same _ _ cc)

pub returns-in_err-store-clause-bad_name : goal.returns-in_err-store-clause-bad_name
returns-in_err-store-clause-bad_name g c = λ bad.
    let told = (c.in_ok-was_missing.ensures.bad_name bad).0 in (absurd cc, absurd_same _ _ cc)

pub returns-clause-bad_name : goal.returns-clause-bad_name
returns-clause-bad_name g c = λ bad.
    let told = (c.in_ok-was_missing.ensures.bad_name bad).0 in (absurd cc, absurd_same _ _ cc)
