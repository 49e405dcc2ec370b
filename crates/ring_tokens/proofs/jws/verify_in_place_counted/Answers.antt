-- SPDX-License-Identifier: ISC
use Rattle.std.proofs.Common.{◌≡◌, ◌≤◌, ℕ, List, arith, inl, length, refl, take}
use Rattle.std.specs.Prelude.{Err}
use Rattle.ring_tokens.specs.Gives.{VerifiesInPlace}
use Rattle.ring_tokens.specs.InPlace.{IsUsual}
use Rattle.ring_tokens.specs.Jws.{IsKey, IsTokenUnder, alg_of}
use Rattle.ring_tokens.specs.declared.error.TokenError.TheVariants as token_error
use Rattle.ring_tokens.specs.declared.key.Key.{Key}
use Rattle.ring_tokens.proofs.Tokens.{header_is, payload_is, token_under}
use Rattle.ring_tokens.proofs.Usual.{header_of, octets_of, text_of, valid_of}
use Rattle.ring_tokens.proofs.jws.verify_in_place_counted.Goals as goal

-- a text that is no such token is refused
refuses : {key : Key} {token old new : List ℕ} → length token ≤ length old → new ≡ old
    → ((k : List ℕ) → IsKey key k → (h p : List ℕ) → IsUsual (alg_of key) h
    → IsTokenUnder (alg_of key) k h token p → ⊥)
    → VerifiesInPlace key token old new (Err token_error.Invalid)
refuses room same none = record {
  within = tt;
  ok = λ _ _. tt;
  header = λ _ _. tt;
  behind = tt;
  invalid = λ k key _. none k key;
  no_room = (λ e. cc e, λ short. absurd (omega (arith, room, short)));
  refused = inl refl;
  unchanged = same;
}

pub returns-in_default-clause-plain : goal.returns-in_default-clause-plain
returns-in_default-clause-plain c =
    refuses c.if-out-token.false refl (λ k key h p usual w.
    c.in_default.ensures.refused k key refl h p (octets_of (alg_of c.args.key.now) h usual) w)

pub returns-then-not-is_usual_text-clause-plain : goal.returns-then-not-is_usual_text-clause-plain
returns-then-not-is_usual_text-clause-plain c =
    refuses c.if-out-token.false refl (λ k key h p usual w.
    let a = alg_of c.args.key.now in
    let text = header_is c.in-Some.ensures.parts (octets_of a h usual) w in
    let known = c.is_usual_text.ensures.1 (text_of a h c.in-Some.parts.header.now usual text) in
    cc (known, c.if-not-is_usual_text.true))

pub returns-in-None-clause-plain : goal.returns-in-None-clause-plain
returns-in-None-clause-plain c =
    refuses c.if-out-token.false (c.in-None.ensures.unchanged refl) (λ k key h p usual w.
    c.in-None.ensures.refused refl (record {
      octets = p;
      are = w.octets;
      is = payload_is c.in-Some.ensures.parts (octets_of (alg_of c.args.key.now) h usual) w;
    }))

pub returns-in-Some-decode_into-clause-plain : goal.returns-in-Some-decode_into-clause-plain
returns-in-Some-decode_into-clause-plain c =
    let a = alg_of c.args.key.now in
    let read = c.in-Some-decode_into.ensures.ok in
    let p = take c.in-Some-decode_into.len c.decode_into.new.out in
    let header = header_of a c.in-Some.parts.header.now
    (c.is_usual_text.ensures.0 c.if-not-is_usual_text.false) in
    let signed : (k : List ℕ) → IsKey c.args.key.now k
    → IsTokenUnder a k header.0 c.args.token.now p =
    λ k key. token_under c.in-Some.ensures.parts a k header.0 p header.2 (read.is, read.octets)
    (c.in-Some.ensures.ok k key) in
    record {
      within = read.within;
      ok = λ k key. valid_of header.1 (signed k key);
      header = λ k key. record { header = header.0; usual = header.1; signed = signed k key };
      behind = read.behind;
      invalid = λ _ _ bad. cc bad;
      no_room = (λ e. cc e, λ short. absurd (omega (arith, short, c.if-out-token.false)));
      refused = tt;
      unchanged = tt;
    }
