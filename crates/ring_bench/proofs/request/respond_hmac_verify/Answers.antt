-- SPDX-License-Identifier: ISC
use Rattle.std.proofs.Common.{◌≡◌, length, refl, rules, subst, sym, true, ◌∙◌}
use Rattle.ring.specs.Hmac.{hmac_digest, key_algorithm}
use Rattle.ring.specs.Limits.{IsTagWithin}
use Rattle.ring.specs.declared.digest.algorithm.Algorithm.{Algorithm}
use Rattle.ring_bench.specs.Request.{verdict_answer}
use Rattle.ring_bench.proofs.Counts.{key_room, tag_count}
use Rattle.ring_bench.proofs.Limits.{not_refused, passes, same_verdict, tag-refused, tag-within}
use Rattle.ring_bench.proofs.request.respond_hmac_verify.Goals as goal

pub returns-then-blocks-blocks_before : goal.returns-then-blocks-blocks_before
unfolding verdict_answer
returns-then-blocks-blocks_before g c =
    let a = hmac_digest c.args.algorithm in
    let key = c.in-Ok.ensures in
    let none =
    sym c.blocks-2.ensures ∙ c.if-blocks-blocks_before.true ∙ c.blocks-blocks_before.ensures in
    let cost = rw key.algorithm at c.verify_counted.ensures.cost in
    let room = key_room a _ c.new-meter.ensures (search rules) key.cost in
    let refused = tag-refused a (length c.args.message.now) _ _ room cost none in
    rw (not_refused key.refused.1, refused) refl

pub returns : goal.returns
unfolding verdict_answer
returns g c =
    let a = hmac_digest c.args.algorithm in
    let k = c.args.key.now in
    let n = length c.args.message.now in
    let key = c.in-Ok.ensures in
    let tested = c.verify_counted.ensures in
    let algorithm = key.algorithm in
    let unchanged = rw algorithm at tested.unchanged in
    let cost = rw algorithm at tested.cost in
    let within : IsTagWithin a n =
    tag-within a n _ unchanged (λ same. c.if-blocks-blocks_before.false
    (c.blocks-2.ensures ∙ same ∙ sym c.blocks-blocks_before.ensures)) in
    let own : IsTagWithin (key_algorithm c.in-Ok.key) n =
    subst (λ (x : Algorithm). IsTagWithin x n) (sym algorithm) within in
    let count =
    tag_count a (length k) n _ c.new-meter.ensures (search rules, search rules) key.cost
    (cost within) in
    let shown = c.blocks-3.ensures in
    let told = c.is_ok-is_tag.ensures.value in
    let is_tag = tested.plain.ok k key.ok in
    let given_tag = λ (e : c.is_ok-is_tag.result ≡ true). (is_tag.0 (sym told ∙ e)).1 in
    let same = same_verdict given_tag (λ e. told ∙ is_tag.1 (own, e)) in
    rw (not_refused key.refused.1, passes within) (cc (same, algorithm, count, shown))
