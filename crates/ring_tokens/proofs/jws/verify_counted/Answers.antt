-- SPDX-License-Identifier: ISC
use Rattle.std.proofs.Common.{inl, refl, subst, sym, ◌∙◌}
use Rattle.ring_tokens.specs.Header.{IsHeader}
use Rattle.ring_tokens.specs.Jws.{alg_of}
use Rattle.ring_tokens.proofs.Symbols.{base64url-injective}
use Rattle.ring_tokens.proofs.Tokens.{header_is, if_ok_map, payload_is}
use Rattle.ring_tokens.proofs.Tokens.{signed_apart, token_under}
use Rattle.ring_tokens.proofs.jws.verify_counted.Goals as goal

pub returns-in-Err-clause-plain : goal.returns-in-Err-clause-plain
returns-in-Err-clause-plain g c = record {
  ok = λ _ _. tt;
  invalid = λ k key bad payload is.
      c.in-Err.ensures.invalid bad is.header is.header_octets
      (header_is c.in-Some.ensures.parts is.header_octets is.signed);
  refused = c.in-Err.ensures.refused;
  unsigned = λ k key none.
      absurd (signed_apart _ k c.in-Some.ensures.parts none (c.in-Some.ensures.ok k key));
}

pub returns-in-Ok-true-clause-plain : goal.returns-in-Ok-true-clause-plain
returns-in-Ok-true-clause-plain g c = record {
  ok = λ k key.
      let header = c.in-Ok.ensures.ok in
      let accepted = subst (IsHeader (alg_of c.args.key.now)) c.deref.ensures.value
      (c.in-Ok-true.ensures.0 c.in-Ok-true.field-0-test) in
      if_ok_map c.decode-in-Ok-true.result (λ payload read. record {
        header = c.in-Ok.header.items;
        header_octets = header.1;
        signed = token_under c.in-Some.ensures.parts (alg_of c.args.key.now) k
            c.in-Ok.header.items payload.items header.0 read (c.in-Some.ensures.ok k key);
        accepted = accepted;
      }) c.decode-in-Ok-true.ensures.ok;
  invalid = λ k key bad payload is.
      c.decode-in-Ok-true.ensures.invalid bad payload is.signed.octets
      (payload_is c.in-Some.ensures.parts is.header_octets is.signed);
  refused = c.decode-in-Ok-true.ensures.refused;
  unsigned = λ k key none.
      absurd (signed_apart _ k c.in-Some.ensures.parts none (c.in-Some.ensures.ok k key));
}

pub returns-in-Ok-false-clause-plain : goal.returns-in-Ok-false-clause-plain
returns-in-Ok-false-clause-plain g c = record {
  ok = λ _ _. tt;
  invalid = λ k key _ payload is.
      let read = c.in-Ok.ensures.ok in
      let same = base64url-injective c.in-Ok.header.items is.header read.1 is.header_octets
      (sym read.0 ∙ header_is c.in-Some.ensures.parts is.header_octets is.signed) in
      let accepted = c.in-Ok-false.ensures.1
      (subst (IsHeader (alg_of c.args.key.now)) (sym (c.deref.ensures.value ∙ same)) is.accepted) in
      cc (accepted, c.in-Ok-false.field-0-test);
  refused = inl refl;
  unsigned = λ _ _ _. refl;
}
