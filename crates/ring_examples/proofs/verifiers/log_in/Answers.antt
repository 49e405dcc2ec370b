-- SPDX-License-Identifier: ISC
use Rattle.std.proofs.Common.{rules, ◌≡◌, ◌∙◌, ap, sym}
use Rattle.std.proofs.lemmas.Result.{err_from_is_err_and}
use Rattle.std.specs.Prelude.{Some}
use Rattle.ring_password_hash.specs.Stored.{Parts, answer_of}
use Rattle.ring_password_hash.specs.declared.scheme.Scheme.TheVariants.{Postgresql}
use Rattle.ring_examples.proofs.NewValues.{reads-value}
use Rattle.ring_examples.proofs.verifiers.log_in.Goals as goal

pub returns-then-ne-clause-right : goal.returns-then-ne-clause-right
returns-then-ne-clause-right c = λ h has is right ascii.
    let same = c.one_text_is_of_one_value.ensures _ _ _ has c.in_ok-stored.ensures.0 in
    let eq = c.scheme.ensures ∙ ap (λ (p : Parts). p.scheme) (sym same) ∙ is in
    sym (rw eq at c.if-ne.ensures)

pub returns-in_err-verify-clause-right : goal.returns-in_err-verify-clause-right
returns-in_err-verify-clause-right c = λ h has is right ascii.
    let same = c.one_text_is_of_one_value.ensures _ _ _ has c.in_ok-stored.ensures.0 in
    absurd (cc (c.in_err-verify.ensures
    ∙ ap (λ (p : Parts). answer_of (Some p) c.args.password.now c.args.max_iterations) (sym same)
    ∙ right))

pub returns-clause-ok : goal.returns-clause-ok
returns-clause-ok c = λ told.
    reads-value c.in_ok-stored.ensures.0 (sym c.in_ok-verify.ensures)

pub returns-then-ne-clause-other : goal.returns-then-ne-clause-other
returns-then-ne-clause-other c = λ told.
    reads-value c.in_ok-stored.ensures.0 (λ is. cc (rw (c.scheme.ensures ∙ is) at c.if-ne.ensures))

pub returns-clause-every_other : goal.returns-clause-every_other
returns-clause-every_other c = λ h has other ascii.
    let same = c.one_text_is_of_one_value.ensures _ _ _ has c.in_ok-stored.ensures.0 in
    let is : c.scheme.result ≡ Postgresql = search rules in
    absurd (other (ap (λ (p : Parts). p.scheme) same ∙ sym c.scheme.ensures ∙ is))

pub returns-in_err-verify-clause-every_other : goal.returns-in_err-verify-clause-every_other
returns-in_err-verify-clause-every_other c = λ h has other ascii.
    let same = c.one_text_is_of_one_value.ensures _ _ _ has c.in_ok-stored.ensures.0 in
    let is : c.scheme.result ≡ Postgresql = search rules in
    absurd (other (ap (λ (p : Parts). p.scheme) same ∙ sym c.scheme.ensures ∙ is))

pub returns-in_err-verify-clause-refused : goal.returns-in_err-verify-clause-refused
returns-in_err-verify-clause-refused c = λ error bad.
    let told = c.from_residual-in_err-verify in
    let p = err_from_is_err_and told.result told.ensures.1 in
    let same : c.in_err-verify.field-0.0 ≡ error = cc (p.1, p.2, bad) in
    reads-value c.in_ok-stored.ensures.0 (sym (rw same at c.in_err-verify.ensures))
