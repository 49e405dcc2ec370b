-- SPDX-License-Identifier: ISC
use Rattle.ring_passwords.proofs.Events.{absurd_same, exits_as}
use Rattle.ring_passwords.proofs.Ordered.{not_loaded_later, not_typed, not_verified}
use Rattle.ring_passwords.proofs.Ordered.{not_verified_seen, tested}
use Rattle.ring_passwords.specs.declared.failure.Failure.TheVariants as failure
use Rattle.ring_passwords.proofs.order.verify_in_file.Goals as goal

pub returns-in_err-look-clause-tested : goal.returns-in_err-look-clause-tested
returns-in_err-look-clause-tested g c =
    not_verified_seen c.args.path.now c.args.name.now c.args.meter.now c.from_residual.result _
    c.from_residual.ensures.1 c.in_err-look.ensures.refused

pub returns-in_err-password-clause-tested : goal.returns-in_err-password-clause-tested
returns-in_err-password-clause-tested g c =
    not_verified c.args.path.now c.args.name.now c.args.meter.now
    c.from_residual-in_err-password.result _ c.from_residual-in_err-password.ensures.1
    (not_typed c.args.path.now _ _ c.in_err-password.ensures.failure c.in_ok-look.ensures.ok
    c.in_err-password.ensures.noted)

pub returns-in_err-store-clause-tested : goal.returns-in_err-store-clause-tested
returns-in_err-store-clause-tested g c =
    not_verified c.args.path.now c.args.name.now c.args.meter.now
    c.from_residual-in_err-store.result _ c.from_residual-in_err-store.ensures.1
    (not_loaded_later c.args.path.now _ _ _ c.in_ok-look.ensures.ok
    c.in_ok-password.ensures.noted c.in_err-store.ensures.refused)

pub returns-clause-tested : goal.returns-clause-tested
returns-clause-tested g c =
    tested c.args.path.now c.args.name.now c.in_ok-password.password.items _
    c.in_ok-store.store c.args.meter.now c.verify.new.meter c.verify.result
    c.in_ok-look.ensures.ok c.in_ok-password.ensures.noted c.in_ok-store.ensures.ok
    (rw c.deref.ensures.value at c.verify.ensures.refused)
    (rw c.deref.ensures.value at c.verify.ensures.cost)
    (rw c.deref.ensures.value at c.verify.ensures.cost_untested)

pub returns-in_err-look-clause-bad_name : goal.returns-in_err-look-clause-bad_name
returns-in_err-look-clause-bad_name g c = λ bad.
    let told = c.in_err-look.ensures.bad_name bad in
    (exits_as c.from_residual.result _ failure.BadName c.from_residual.ensures.1 told.0, told.1)

pub returns-in_err-password-clause-bad_name : goal.returns-in_err-password-clause-bad_name
returns-in_err-password-clause-bad_name g c = λ bad.
    let told = (c.in_ok-look.ensures.bad_name bad).0 in (absurd cc, absurd_same _ _ cc)

pub returns-in_err-store-clause-bad_name : goal.returns-in_err-store-clause-bad_name
returns-in_err-store-clause-bad_name g c = λ bad.
    let told = (c.in_ok-look.ensures.bad_name bad).0 in (absurd cc, absurd_same _ _ cc)

pub returns-clause-bad_name : goal.returns-clause-bad_name
returns-clause-bad_name g c = λ bad.
    let told = (c.in_ok-look.ensures.bad_name bad).0 in (absurd cc, absurd_same _ _ cc)
