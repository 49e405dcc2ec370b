-- SPDX-License-Identifier: ISC
use Rattle.std.proofs.Common.{◌≡◌, refl, rules, sym, true, ◌∙◌}
use Rattle.std.specs.Int.NonZero.{non_zero_u32_get}
use Rattle.ring_bench.specs.Request.{key_verdict}
use Rattle.ring_bench.proofs.Counts.{derive_count}
use Rattle.ring_bench.proofs.Limits.{can_verify-true, derived-refused, derived-within, same_verdict}
use Rattle.ring_bench.proofs.request.respond_pbkdf2_verify.Goals as goal

pub returns-then-blocks-eq0 : goal.returns-then-blocks-eq0
unfolding key_verdict
returns-then-blocks-eq0 g c =
    let none = sym c.blocks-2.ensures ∙ c.if-blocks-eq0.true in
    let cost = c.verify_counted.ensures.cost in
    rw (derived-refused c.new-meter.ensures (non_zero_u32_get c.args.iterations) _ cost none) refl

pub returns : goal.returns
unfolding key_verdict
returns g c =
    let tested = c.verify_counted.ensures in
    let can =
    derived-within c.new-meter.ensures tested.unchanged
    (λ none. c.if-blocks-eq0.false (c.blocks-2.ensures ∙ none)) in
    let count =
    derive_count (non_zero_u32_get c.args.iterations) _ c.new-meter.ensures (search rules)
    (search rules) (search rules) can.within (tested.cost can) in
    let shown = c.blocks-3.ensures in
    let told = c.is_ok-is_derived.ensures.value in
    let derived = λ (e : c.is_ok-is_derived.result ≡ true). (tested.ok.0 (sym told ∙ e)).same in
    let same = same_verdict derived (λ e. told ∙ tested.ok.1 (record { within = can; same = e })) in
    rw (can_verify-true can) (cc (same, count, shown))
