-- SPDX-License-Identifier: ISC
use Rattle.std.proofs.Common.{◌≡◌, ◌+◌, ◌-◌, arith, rules, ap, ◌∙◌, inl, inr, length}
use Rattle.std.proofs.lemmas.Bool.{cases_lt}
use Rattle.ring_tokens.specs.Cost.{raised_by_tests}
use Rattle.ring_tokens.specs.Otp.{hotp_text}
use Rattle.ring_tokens.specs.Secret.{secret_algorithm}
use Rattle.ring_tokens.proofs.Rises.{tests_more, tests_none}
use Rattle.ring_tokens.proofs.otp.find_hotp_counted.Goals as goal

pub counters-init : goal.counters-init
counters-init c =
    let f = c.ranges.first.fits in (
      λ k secret n from within. absurd (omega (arith, from, within)),
      tests_none c.args.meter.now (secret_algorithm c.args.secret.now) c.args.digits
          (length c.args.text.now),
      omega arith,
    )

pub returns-then-is_password-clause-cost : goal.returns-then-is_password-clause-cost
returns-then-is_password-clause-cost c =
    let a = secret_algorithm c.args.secret.now in
    let here : c.in-Some.counter ≡ c.args.first + c.counters.i = search rules in
    let n : c.counters.i + 1 ≡ c.in-Some.counter - c.args.first + 1 = omega (arith, here) in
    tests_more _ a c.args.digits (length c.args.text.now) c.counters.i c.counters.invariant.1
    c.is_password.ensures.cost
    ∙ ap (raised_by_tests c.args.meter.now a c.args.digits (length c.args.text.now)) n

pub counters-preserved : goal.counters-preserved
counters-preserved c =
    let a = secret_algorithm c.args.secret.now in
    let here : c.in-Some.counter ≡ c.args.first + c.counters.i = search rules in (
      λ k secret n from within same.
          elim (cases_lt n (c.args.first + c.counters.i)) [
            | inl before ↦ c.counters.invariant.0 k secret n from before same
            | inr at ↦
                let e : n ≡ c.in-Some.counter = omega (arith, here) in
                let found = (c.is_password.ensures.ok k secret).1
                (same ∙ ap (λ m. hotp_text a k m c.args.digits) e) in
                cc (found, c.if-is_password.false)
          ],
      tests_more _ a c.args.digits (length c.args.text.now) c.counters.i c.counters.invariant.1
          c.is_password.ensures.cost,
      omega (arith, here),
    )
