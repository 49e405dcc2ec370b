-- SPDX-License-Identifier: ISC
use Rattle.std.proofs.Common.{◌≡◌, ◌++◌, length, take, drop, refl, ◌∙◌, rules}
use Rattle.std.proofs.Math.Seq.{take-append_seam}
use Rattle.std.specs.Int.NonZero.{non_zero_u32_get}
use Rattle.ring.specs.Pbkdf2.{dk, pbkdf2_digest}
use Rattle.ring.specs.Limits.{CanDerive}
use Rattle.ring_bench.specs.Request.{key_answer}
use Rattle.ring_bench.proofs.Counts.{derive_count}
use Rattle.ring_bench.proofs.Limits.{can_derive-true}
use Rattle.ring_bench.proofs.request.respond_pbkdf2.Goals as goal

pub returns-in-Ok : goal.returns-in-Ok
unfolding key_answer
returns-in-Ok g c =
    let end = c.in-Ok.ensures in
    let out = c.derive_counted.new.out in
    let room : c.in_ok-bytes.bytes.len ≡ length out = search rules in
    let kept = take-append_seam out (drop (length out) c.in_ok-bytes.bytes.items) in
    let size : length c.deref_mut.result.now ≡ c.args.len = search rules in
    let made : take c.in_ok-bytes.bytes.len (out ++ drop (length out) c.in_ok-bytes.bytes.items)
    ≡ dk (pbkdf2_digest c.args.algorithm) c.args.secret.now c.args.salt.now
    (non_zero_u32_get c.args.iterations) (length c.deref_mut.result.now) =
    rw room (kept ∙ end.ok) in
    let limits = end.refused.0 refl in
    let can : CanDerive (pbkdf2_digest c.args.algorithm)
    (length c.args.secret.now) (length c.args.salt.now) c.args.len =
    rw size at limits in
    let count =
    derive_count (non_zero_u32_get c.args.iterations) 0 c.new-meter.ensures (search rules)
    (search rules) (search rules) can (rw size at end.cost) in
    let shown = c.blocks-in-Ok.ensures in
    rw (can_derive-true can) (cc (made, count, shown, size))
