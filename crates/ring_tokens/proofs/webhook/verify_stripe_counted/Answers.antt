-- SPDX-License-Identifier: ISC
use Rattle.std.proofs.Common.{arith, ap, length, refl, ◌∙◌}
use Rattle.ring.specs.Prelude.{hmac_of}
use Rattle.ring_tokens.specs.Secret.{secret_algorithm}
use Rattle.ring_tokens.specs.Webhook.{has_item, stripe_item, stripe_message}
use Rattle.ring_tokens.proofs.Items.{stripe_read}
use Rattle.ring_tokens.proofs.Rises.{stripe_cost}
use Rattle.ring_tokens.proofs.webhook.verify_stripe_counted.Goals as goal

pub returns-then-now-time-clause-ok : goal.returns-then-now-time-clause-ok
returns-then-now-time-clause-ok c = λ k secret. (
  λ f. cc f,
  λ w.
      let same = stripe_read c.args.header.now c.in-Some.time c.in-Some.ensures.ok w.time w.items
      w.small w.is in
      absurd (omega (arith, same.0, w.recent, c.if-now-time.true)),
)

pub returns-then-now-time-clause-cost : goal.returns-then-now-time-clause-cost
returns-then-now-time-clause-cost c = λ n items alg small is recent within.
    let same = stripe_read c.args.header.now c.in-Some.time c.in-Some.ensures.ok n items small is in
    absurd (omega (arith, same.0, recent, c.if-now-time.true))

pub returns-in_default-sign_pieces-clause-ok : goal.returns-in_default-sign_pieces-clause-ok
returns-in_default-sign_pieces-clause-ok c = λ k secret. (
  λ f. cc f,
  λ w.
      let same = stripe_read c.args.header.now c.in-Some.time c.in-Some.ensures.ok w.time w.items
      w.small w.is in
      let whole = ap length (same.2 c.args.body.now) in
      absurd (omega (arith, c.in_default-sign_pieces.ensures.refused.0 refl, w.within, whole)),
)

pub returns-in_default-sign_pieces-clause-cost : goal.returns-in_default-sign_pieces-clause-cost
returns-in_default-sign_pieces-clause-cost c = λ n items alg small is recent within.
    let same = stripe_read c.args.header.now c.in-Some.time c.in-Some.ensures.ok n items small is in
    let whole = ap length (same.2 c.args.body.now) in
    let past = rw alg at (c.in_default-sign_pieces.ensures.refused.0 refl) in
    absurd (omega (arith, past, within, whole))

pub returns-then-not-has_item-clause-ok : goal.returns-then-not-has_item-clause-ok
returns-then-not-has_item-clause-ok c = λ k secret. (
  λ f. cc f,
  λ w.
      let a = secret_algorithm c.args.secret.now in
      let body = c.args.body.now in
      let same = stripe_read c.args.header.now c.in-Some.time c.in-Some.ensures.ok w.time w.items
      w.small w.is in
      let tag = c.as_ref.ensures.bytes ∙ (c.in-Ok.ensures.ok k secret).bytes
      ∙ ap (hmac_of a k) (same.2 body) in
      let found = c.has_item.ensures.ok
      ∙ ap (λ t. has_item (stripe_item t) c.in-Some.time.items.now) tag
      ∙ ap (has_item (stripe_item (hmac_of a k (stripe_message w.time body)))) same.1 ∙ w.signed in
      cc (found, c.if-not-has_item.true),
)

pub returns-then-not-has_item-clause-cost : goal.returns-then-not-has_item-clause-cost
returns-then-not-has_item-clause-cost c = λ n items alg small is recent within.
    let time = c.in-Some.time in
    let same = stripe_read c.args.header.now time c.in-Some.ensures.ok n items small is in
    stripe_cost c.args.meter.now time.digits.now c.args.body.now n alg
    (same.2 c.args.body.now) same.1 c.in-Ok.ensures.cost c.has_item.ensures.cost

pub returns-clause-cost : goal.returns-clause-cost
returns-clause-cost c = λ n items alg small is recent within.
    let time = c.in-Some.time in
    let same = stripe_read c.args.header.now time c.in-Some.ensures.ok n items small is in
    stripe_cost c.args.meter.now time.digits.now c.args.body.now n alg
    (same.2 c.args.body.now) same.1 c.in-Ok.ensures.cost c.has_item.ensures.cost
