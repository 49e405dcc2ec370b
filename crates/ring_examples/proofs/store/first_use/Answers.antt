-- SPDX-License-Identifier: ISC
use Rattle.std.proofs.Common.{rules, arith, ◌≡◌, ℕ, ◌≤◌, List, length, codes, IfOk, refl, ap}
use Rattle.std.proofs.Common.{subst, ◌∙◌}
use Rattle.std.specs.Prelude.{Result, Ok, is_ok}
use Rattle.ring.specs.Algorithm.{max_input_len}
use Rattle.ring.specs.declared.digest.algorithm.TheConstants.{SHA256}
use Rattle.ring_store.specs.Store.{admission}
use Rattle.ring_store.specs.Token.{MakerStandsFor, checked, token_input_len, token_key, token_of}
use Rattle.ring_store.specs.declared.error.TokenError.{TokenError}
use Rattle.ring_store.proofs.Verdicts.{set_then_verify, verdict-with_iterations, verify_again}
use Rattle.ring_examples.proofs.store.first_use.Goals as goal

-- the example's name
abbrev alice : List ℕ
alice = codes "alice"

admitted : admission alice (codes "correct horse") ≡ Ok tt
admitted = refl

pub returns-in_err-verify_password : goal.returns-in_err-verify_password
returns-in_err-verify_password c =
    grind (arith, set_then_verify, admitted, c.in_err-verify_password.was)

pub returns-in_err-verify_password-2 : goal.returns-in_err-verify_password-2
returns-in_err-verify_password-2 c =
    let twice = c.in_err-verify_password-2.was in
    grind (arith, set_then_verify, verify_again, verdict-with_iterations, admitted, twice)

-- a token that was issued passes
passes_by : {token : List ℕ} {r : Result (Unit {0}) TokenError} (k user : List ℕ) (expiry now : ℕ)
    → token_input_len (length user) ≤ max_input_len SHA256 → now ≤ expiry
    → token ≡ token_of k user expiry
    → r ≡ checked k user expiry now token → r ≡ Ok tt
passes_by k user expiry now within early made is =
    let passes : checked k user expiry now (token_of k user expiry) ≡ Ok tt = search rules in
    is ∙ ap (checked k user expiry now) made ∙ passes

pub unwrap-requires : goal.unwrap-requires
unwrap-requires c =
    let k = token_key c.args.master.now (codes "tokens of this service") in
    let expiry = c.saturating_add-expiry.result in
    let stands : MakerStandsFor c.unwrap-maker.result k =
    subst (λ r. IfOk r (λ maker. MakerStandsFor maker k)) c.unwrap-maker.ensures c.new.ensures.ok in
    let made : c.unwrap-token.result ≡ token_of k alice expiry =
    subst (λ r. IfOk r (λ token. token ≡ token_of k alice expiry)) c.unwrap-token.ensures
    (c.issue.ensures.ok k stands) in
    let checks = c.check.ensures.refused k stands in
    ap is_ok (passes_by k alice expiry c.args.now (omega arith) (omega arith) made checks)
