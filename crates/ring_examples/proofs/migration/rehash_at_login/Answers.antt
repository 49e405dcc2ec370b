-- SPDX-License-Identifier: ISC
use Rattle.std.proofs.Common.{◌≤◌, ◌∙◌, ap, inl, inr, refl, subst, sym}
use Rattle.std.proofs.lemmas.Result.{err_from_is_err_and}
use Rattle.std.specs.Prelude.{Some}
use Rattle.std.specs.Int.NonZero.{non_zero_u32_get}
use Rattle.ring_password_hash.specs.Stored.{Parts, answer_of}
use Rattle.ring_examples.proofs.NewValues.{reads-value}
use Rattle.ring_examples.proofs.migration.rehash_at_login.Goals as goal

pub returns-then-is_current-clause-ok : goal.returns-then-is_current-clause-ok
returns-then-is_current-clause-ok c = λ told.
    reads-value c.in_ok-stored.ensures.0 (sym c.in_ok-verify.ensures)

pub returns-then-is_current-clause-current : goal.returns-then-is_current-clause-current
returns-then-is_current-clause-current c = λ told.
    reads-value c.in_ok-stored.ensures.0 (c.if-is_current.ensures.0 refl)

pub returns-clause-ok : goal.returns-clause-ok
returns-clause-ok c = λ told.
    reads-value c.in_ok-stored.ensures.0 (sym c.in_ok-verify.ensures)

pub returns-clause-stays : goal.returns-clause-stays
returns-clause-stays c = λ h has is enough right.
    let same = c.one_text_is_of_one_value.ensures _ _ _ has c.in_ok-stored.ensures.0 in
    let most = subst (λ (p : Parts).
    non_zero_u32_get c.args.iterations ≤ non_zero_u32_get p.iterations) same enough in
    absurd (cc (c.if-is_current.ensures.1 (ap (λ (p : Parts). p.scheme) (sym same) ∙ is, most)))

pub returns-in_err-len-clause-stays : goal.returns-in_err-len-clause-stays
returns-in_err-len-clause-stays c = λ h has is enough right.
    let same = c.one_text_is_of_one_value.ensures _ _ _ has c.in_ok-stored.ensures.0 in
    let most = subst (λ (p : Parts).
    non_zero_u32_get c.args.iterations ≤ non_zero_u32_get p.iterations) same enough in
    absurd (cc (c.if-is_current.ensures.1 (ap (λ (p : Parts). p.scheme) (sym same) ∙ is, most)))

pub returns-in_err-len-clause-refused : goal.returns-in_err-len-clause-refused
returns-in_err-len-clause-refused c =
    let told = c.from_residual-in_err-len in
    let p = err_from_is_err_and told.result told.ensures.1 in
    rw (p.1, p.2) (reads-value c.in_ok-stored.ensures.0
    (inr (sym c.in_ok-verify.ensures, c.in_err-len.ensures.refused)))

pub returns-in_err-verify-clause-stays : goal.returns-in_err-verify-clause-stays
returns-in_err-verify-clause-stays c = λ h has is enough right.
    let same = c.one_text_is_of_one_value.ensures _ _ _ has c.in_ok-stored.ensures.0 in
    absurd (cc (c.in_err-verify.ensures
    ∙ ap (λ (p : Parts). answer_of (Some p) c.args.password.now c.args.max_iterations) (sym same)
    ∙ right))

pub returns-in_err-verify-clause-refused : goal.returns-in_err-verify-clause-refused
returns-in_err-verify-clause-refused c =
    let told = c.from_residual-in_err-verify in
    let p = err_from_is_err_and told.result told.ensures.1 in
    rw (p.1, p.2) (reads-value c.in_ok-stored.ensures.0 (inl (sym c.in_err-verify.ensures)))
