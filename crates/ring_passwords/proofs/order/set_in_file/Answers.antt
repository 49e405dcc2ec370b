-- SPDX-License-Identifier: ISC
use Rattle.std.proofs.Common.{Global}
use Rattle.ring_passwords.specs.Order.{IsNotSet}
use Rattle.ring_passwords.proofs.Events.{Did-exits, absurd_same, exits_as}
use Rattle.ring_passwords.proofs.Kept.{kept_if_not_set}
use Rattle.ring_passwords.proofs.Ordered.{gone_if_not_set, is_set, not_set_admitted, not_set_begun}
use Rattle.ring_passwords.proofs.Ordered.{not_set_replaced}
use Rattle.ring_passwords.proofs.Unsynced.{unsynced_if_not_set}
use Rattle.ring_passwords.specs.declared.failure.Failure.TheVariants as failure
use Rattle.ring_passwords.proofs.order.set_in_file.Goals as goal

pub returns-in_err-password-clause-refused : goal.returns-in_err-password-clause-refused
returns-in_err-password-clause-refused g c =
    let path = c.args.path.now in
    let name = c.args.name.now in
    let given = c.args.iterations in
    Did-exits (IsNotSet Global path name given) c.from_residual.result
    c.from_residual.ensures.1
    (λ failed is. rw is (not_set_begun path name given _ c.in_err-password.ensures.refused))

pub returns-in_err-password-clause-gone : goal.returns-in_err-password-clause-gone
returns-in_err-password-clause-gone g c =
    gone_if_not_set Global c.args.path.now c.args.name.now c.from_residual.result _ _
    c.args.iterations
    (returns-in_err-password-clause-refused g c)

pub returns-in_err-password-clause-unchanged : goal.returns-in_err-password-clause-unchanged
returns-in_err-password-clause-unchanged g c =
    kept_if_not_set c.args.path.now Global c.args.name.now c.from_residual.result _ _
    c.args.iterations
    (returns-in_err-password-clause-refused g c)

pub returns-in_err-set-clause-refused : goal.returns-in_err-set-clause-refused
returns-in_err-set-clause-refused g c =
    let path = c.args.path.now in
    let name = c.args.name.now in
    let given = c.args.iterations in
    let why = rw c.deref.ensures.value at c.in_err-set.ensures.refused in
    let memory = rw c.deref.ensures.value at c.in_err-set.ensures.memory in
    Did-exits (IsNotSet Global path name given) c.from_residual-in_err-set.result
    c.from_residual-in_err-set.ensures.1
    (λ failed is. rw is (not_set_admitted path name _ given _ _ c.in_ok-password.ensures.ok.1 why
    memory))

pub returns-in_err-set-clause-gone : goal.returns-in_err-set-clause-gone
returns-in_err-set-clause-gone g c =
    gone_if_not_set Global c.args.path.now c.args.name.now c.from_residual-in_err-set.result _ _
    c.args.iterations
    (returns-in_err-set-clause-refused g c)

pub returns-in_err-set-clause-unchanged : goal.returns-in_err-set-clause-unchanged
returns-in_err-set-clause-unchanged g c =
    kept_if_not_set c.args.path.now Global c.args.name.now c.from_residual-in_err-set.result _ _
    c.args.iterations
    (returns-in_err-set-clause-refused g c)

pub returns-in_err-replace-clause-refused : goal.returns-in_err-replace-clause-refused
returns-in_err-replace-clause-refused g c =
    let path = c.args.path.now in
    let name = c.args.name.now in
    let given = c.args.iterations in
    let is_path = c.in_ok-password.ensures.ok.0 in
    let last = rw is_path at c.in_err-replace.ensures.refused in
    let changed = rw c.deref.ensures.value at c.in_ok-set.ensures.ok in
    Did-exits (IsNotSet Global path name given) c.from_residual-in_err-replace.result
    c.from_residual-in_err-replace.ensures.1
    (λ failed is. rw is (not_set_replaced path name _ given _ _ _ changed
    c.in_ok-password.ensures.ok.1 last))

pub returns-in_err-replace-clause-gone : goal.returns-in_err-replace-clause-gone
returns-in_err-replace-clause-gone g c =
    gone_if_not_set Global c.args.path.now c.args.name.now c.from_residual-in_err-replace.result _ _
    c.args.iterations
    (returns-in_err-replace-clause-refused g c)

pub returns-in_err-replace-clause-unchanged : goal.returns-in_err-replace-clause-unchanged
returns-in_err-replace-clause-unchanged g c =
    kept_if_not_set c.args.path.now Global c.args.name.now c.from_residual-in_err-replace.result _ _
    c.args.iterations
    (returns-in_err-replace-clause-refused g c)

pub returns-clause-ok : goal.returns-clause-ok
returns-clause-ok g c =
    let path = c.args.path.now in
    let is_path = c.in_ok-password.ensures.ok.0 in
    let replaced = rw is_path at c.in_ok-replace.ensures.ok in
    let changed = rw c.deref.ensures.value at c.in_ok-set.ensures.ok in
    is_set path c.args.name.now _ c.args.iterations _ _ _ c.in_ok-password.ensures.ok.1
    changed replaced c.iterations.ensures

pub returns-in_err-password-clause-bad_name : goal.returns-in_err-password-clause-bad_name
returns-in_err-password-clause-bad_name g c = λ bad.
    let told = c.in_err-password.ensures.bad_name bad in
    (exits_as c.from_residual.result _ failure.BadName c.from_residual.ensures.1 told.0, told.1)

pub returns-in_err-set-clause-bad_name : goal.returns-in_err-set-clause-bad_name
returns-in_err-set-clause-bad_name g c = λ bad.
    let told = (c.in_ok-password.ensures.bad_name bad).0 in (absurd cc, absurd_same _ _ cc)

pub returns-in_err-replace-clause-bad_name : goal.returns-in_err-replace-clause-bad_name
returns-in_err-replace-clause-bad_name g c = λ bad.
    let told = (c.in_ok-password.ensures.bad_name bad).0 in (absurd cc, absurd_same _ _ cc)

pub returns-clause-bad_name : goal.returns-clause-bad_name
returns-clause-bad_name g c = λ bad.
    let told = (c.in_ok-password.ensures.bad_name bad).0 in (absurd cc, absurd_same _ _ cc)

pub returns-in_err-password-clause-unsynced : goal.returns-in_err-password-clause-unsynced
returns-in_err-password-clause-unsynced g c =
    unsynced_if_not_set c.args.path.now Global c.args.name.now c.from_residual.result _ _
    c.args.iterations
    (returns-in_err-password-clause-refused g c)

pub returns-in_err-set-clause-unsynced : goal.returns-in_err-set-clause-unsynced
returns-in_err-set-clause-unsynced g c =
    unsynced_if_not_set c.args.path.now Global c.args.name.now c.from_residual-in_err-set.result _ _
    c.args.iterations
    (returns-in_err-set-clause-refused g c)

pub returns-in_err-replace-clause-unsynced : goal.returns-in_err-replace-clause-unsynced
returns-in_err-replace-clause-unsynced g c =
    unsynced_if_not_set c.args.path.now Global c.args.name.now
    c.from_residual-in_err-replace.result _ _
    c.args.iterations
    (returns-in_err-replace-clause-refused g c)
