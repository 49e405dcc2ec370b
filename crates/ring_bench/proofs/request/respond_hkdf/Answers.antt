-- SPDX-License-Identifier: ISC
use Rattle.std.proofs.Common.{◌≡◌, ◌++◌, length, take, drop, ap, refl, sym, ◌∙◌, rules}
use Rattle.std.proofs.Common.{false, true≢false}
use Rattle.std.proofs.Math.Seq.{take-append_seam}
use Rattle.std.proofs.lemmas.Bool.{false_from_ne_true}
use Rattle.ring.specs.Hkdf.{hkdf_digest, okm, salt_algorithm}
use Rattle.ring.specs.Hmac.{hmac_of}
use Rattle.ring.specs.Okm.{okm_algorithm, okm_info_len}
use Rattle.ring.specs.Pieces.{joined}
use Rattle.ring.specs.Limits.{can_expand}
use Rattle.ring_bench.specs.Request.{output_answer}
use Rattle.ring_bench.proofs.Counts.{output_count}
use Rattle.ring_bench.proofs.Limits.{can_expand-true, can_fill, filled, not_refused}
use Rattle.ring_bench.proofs.request.respond_hkdf.Goals as goal

pub returns-in-Ok-fill_counted : goal.returns-in-Ok-fill_counted
unfolding output_answer
returns-in-Ok-fill_counted g c =
    let a = hkdf_digest c.args.algorithm in
    let s = c.args.salt.now in
    let x = c.args.secret.now in
    let info = c.args.info.now.bytes.items in
    let salt = c.in-Ok.ensures in
    let prk = c.in-Ok-extract_counted.ensures in
    let asked = c.in-Ok-expand.ensures in
    let end = c.in-Ok-fill_counted.ensures in
    let same : joined c.deref.result.now ≡ info = rw c.deref.ensures.value c.in_ok-views.ensures in
    let algorithm : okm_algorithm c.in-Ok-expand.output ≡ a =
    asked.algorithm ∙ prk.algorithm ∙ salt.algorithm in
    let info_len : okm_info_len c.in-Ok-expand.output ≡ length info =
    asked.info_len ∙ ap length same in
    let out = c.fill_counted.new.out in
    let room : c.in_ok-bytes.bytes.len ≡ length out = search rules in
    let kept = take-append_seam out (drop (length out) c.in_ok-bytes.bytes.items) in
    let made : take c.in_ok-bytes.bytes.len (out ++ drop (length out) c.in_ok-bytes.bytes.items)
    ≡ okm (okm_algorithm c.in-Ok-expand.output) (hmac_of (salt_algorithm c.in-Ok.salt) s x)
    (joined c.deref.result.now) c.args.len =
    rw room (kept ∙ end.ok _ _ _ (asked.ok _ (prk.ok s salt.ok))) in
    let within =
    filled algorithm info_len asked.asked_len
    (rw (prk.algorithm, salt.algorithm) at asked.refused.1) (end.refused.0 refl) in
    let count =
    output_count {s = length s} {x = length x} c.new-meter.ensures (search rules) (search rules)
    within salt.cost (rw salt.algorithm at prk.cost)
    (rw (algorithm, info_len, asked.asked_len) at end.cost) in
    let shown = c.blocks-in-Ok-fill_counted.ensures in
    let salted = salt.algorithm in
    let refused = rw salt.algorithm at prk.refused in
    rw (not_refused salt.refused.1, not_refused refused.1, can_expand-true within)
    (cc (made, algorithm, salted, same, count, shown))

pub returns : goal.returns
unfolding output_answer
returns g c =
    let a = hkdf_digest c.args.algorithm in
    let salt = c.in-Ok.ensures in
    let prk = c.in-Ok-extract_counted.ensures in
    let asked = c.in-Ok-expand.ensures in
    let info = c.args.info.now.bytes.items in
    let same : joined c.deref.result.now ≡ info = rw c.deref.ensures.value c.in_ok-views.ensures in
    let size : length c.deref_mut.result.now ≡ c.args.len = search rules in
    let fails : can_expand a (length info) c.args.len ≡ false =
    false_from_ne_true (can_expand a (length info) c.args.len) (λ e.
    let can =
    can_fill (asked.algorithm ∙ prk.algorithm ∙ salt.algorithm) (asked.info_len ∙ ap length same)
    asked.asked_len size e in
    true≢false (sym (c.in-Err.ensures.refused.1 can))) in
    let refused = rw salt.algorithm at prk.refused in
    rw (not_refused salt.refused.1, not_refused refused.1, fails) refl
