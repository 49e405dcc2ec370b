-- SPDX-License-Identifier: ISC
use Rattle.std.proofs.Common.{ap, length, refl, subst, sym, ◌∙◌}
use Rattle.ring.specs.Prelude.{IsTagWithin, hmac_of}
use Rattle.ring_tokens.specs.Alg.{algorithm_of}
use Rattle.ring_tokens.specs.Jws.{alg_of, base64url, signature_of}
use Rattle.ring_tokens.proofs.Rises.{has_verified}
use Rattle.ring_tokens.proofs.Tokens.{input_is, signature_is, token_cut}
use Rattle.ring_tokens.proofs.signature.signed_parts.Goals as goal

pub returns-in_default-clause-refused : goal.returns-in_default-clause-refused
returns-in_default-clause-refused c = λ k key _ h p octets is.
    let s = signature_of (alg_of c.args.key.now) k h p in
    c.in_default.ensures.refused refl (base64url h) (base64url p) (base64url s)
    (token_cut octets is)

pub returns-in_default-clause-cost : goal.returns-in_default-clause-cost
returns-in_default-clause-cost c = record {
  cost = λ h p s cut within. absurd (c.in_default.ensures.refused refl h p s cut);
  untested = λ no. refl;
}

pub returns-then-not-is_signature-clause-refused :
    goal.returns-then-not-is_signature-clause-refused
returns-then-not-is_signature-clause-refused c = λ k key _ h p octets is.
    let a = algorithm_of (alg_of c.args.key.now) in
    let input = input_is c.in-Some.ensures.ok octets is in
    let valid = (c.is_signature.ensures.ok k key).1 (
      subst (λ m. IsTagWithin a (length m)) (sym input) is.within,
      signature_is c.in-Some.ensures.ok octets is ∙ ap (λ m. base64url (hmac_of a k m)) (sym input),
    ) in
    cc (valid, c.if-not-is_signature.true)

pub returns-then-not-is_signature-clause-cost : goal.returns-then-not-is_signature-clause-cost
returns-then-not-is_signature-clause-cost c =
    has_verified c.in-Some.ensures.ok (alg_of c.args.key.now) c.is_signature.ensures.cost
    c.is_signature.ensures.unchanged

pub returns-clause-cost : goal.returns-clause-cost
returns-clause-cost c =
    has_verified c.in-Some.ensures.ok (alg_of c.args.key.now) c.is_signature.ensures.cost
    c.is_signature.ensures.unchanged
