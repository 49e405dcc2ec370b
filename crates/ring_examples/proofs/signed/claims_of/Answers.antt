-- SPDX-License-Identifier: ISC
use Rattle.std.proofs.Common.{rules, ◌∙◌, ℕ, List, subst, sym}
use Rattle.std.proofs.lemmas.Result.{err_from_is_err_and}
use Rattle.ring_tokens.specs.Claims.{IsCurrent}
use Rattle.ring_examples.proofs.signed.claims_of.Goals as goal

pub returns-in_err-claims-clause-invalid : goal.returns-in_err-claims-clause-invalid
returns-in_err-claims-clause-invalid g c = λ k claims key bad is current.
    let p = err_from_is_err_and c.from_residual.result c.from_residual.ensures.1 in
    c.in_err-claims.ensures.invalid k key (cc (p.1, p.2, bad)) claims is

pub returns-then-not-branch-clause-invalid : goal.returns-then-not-branch-clause-invalid
returns-then-not-branch-clause-invalid g c = λ k claims key bad is current.
    let found = c.in_ok-claims.ensures.ok k key in
    let same = c.one_token_is_of_one_algorithm.ensures _ _ k k _ _ _ is found in
    let held = subst (λ (l : List ℕ). IsCurrent l c.args.now 60)
    (same.1 ∙ sym c.deref.ensures.value) current in
    search rules
