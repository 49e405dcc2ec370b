-- SPDX-License-Identifier: ISC
use Rattle.std.proofs.Common.{rules, ◌≡◌, ◌∙◌, ℕ, List, subst, take}
use Rattle.std.proofs.lemmas.Result.{err_from_is_err_and}
use Rattle.std.specs.Prelude.{Err}
use Rattle.ring_password_hash.specs.Stored.{IsTextOf, new_parts, new_status}
use Rattle.ring_examples.proofs.NewValues.{behind-written, can_keep-new, next-left, next-salt}
use Rattle.ring_examples.proofs.NewValues.{reads-value, written-text}
use Rattle.ring_examples.proofs.rows.new_text.Goals as goal

pub returns-clause-ok : goal.returns-clause-ok
returns-clause-ok g c =
    let made = c.in_ok-stored.ensures in
    let salt = c.as_ref.ensures ∙ next-salt c.in_ok-salt.ensures.ok in
    let text = written-text c.in_ok-stored.stored _ c.in_ok-len.ensures made.2 made.1 in
    let is = subst (λ (s : List ℕ).
    IsTextOf (new_parts c.args.scheme c.args.password.now s c.args.iterations)
    (take c.in_ok-len.len c.write_to.new.out)) salt text in
    (is, behind-written _ _ c.in_ok-len.ensures)

pub returns-clause-right : goal.returns-clause-right
returns-clause-right g c = λ most within.
    let made = c.in_ok-stored.ensures in
    let k = c.args.scheme in
    let p = c.args.password.now in
    let s = c.as_ref.result.now in
    let can = can_keep-new _ k p s c.args.iterations made.0 in
    reads-value (written-text c.in_ok-stored.stored _ c.in_ok-len.ensures made.2 made.1)
    (c.new_value_is_the_passwords.ensures k p s c.args.iterations most can within)

pub returns-clause-taken : goal.returns-clause-taken
returns-clause-taken g c = λ is_ready. next-left c.in_ok-salt.ensures.ok

pub returns-in_err-stored-clause-taken : goal.returns-in_err-stored-clause-taken
returns-in_err-stored-clause-taken g c = λ is_ready. next-left c.in_ok-salt.ensures.ok

pub returns-in_err-stored-clause-refused : goal.returns-in_err-stored-clause-refused
returns-in_err-stored-clause-refused g c = λ error bad.
    let told = c.from_residual-in_err-stored in
    let p = err_from_is_err_and told.result told.ensures.1 in
    let same : c.in_err-stored.field-0.0 ≡ error = cc (p.1, p.2, bad) in
    let salt = c.as_ref.ensures ∙ next-salt c.in_ok-salt.ensures.ok in
    let status : new_status 1024 c.args.scheme c.args.password.now c.as_ref.result.now
    c.args.iterations ≡ Err c.in_err-stored.field-0.0 = search rules in
    subst (λ (s : List ℕ).
    new_status 1024 c.args.scheme c.args.password.now s c.args.iterations ≡ Err error)
    salt (rw same at status)
