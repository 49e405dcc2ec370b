-- SPDX-License-Identifier: ISC
use Rattle.std.proofs.Common.{◌≡◌, length, arith, rules}
use Rattle.std.proofs.lemmas.Grind.{common_steps}
use Rattle.ring.specs.Hmac.{hmac_digest, hmac_of}
use Rattle.ring.specs.Pieces.{joined}
use Rattle.ring_bench.specs.Request.{tag_answer}
use Rattle.ring_bench.proofs.Counts.{tag_count}
use Rattle.ring_bench.proofs.Limits.{not_refused}
use Rattle.ring_bench.proofs.request.respond_hmac.Goals as goal

pub returns-in-Ok-sign_pieces : goal.returns-in-Ok-sign_pieces
unfolding tag_answer
returns-in-Ok-sign_pieces g c =
    let a = hmac_digest c.args.algorithm in
    let k = c.args.key.now in
    let m = c.args.pieces.now.bytes.items in
    let key = c.in-Ok.ensures in
    let end = c.in-Ok-sign_pieces.ensures in
    let algorithm = key.algorithm in
    let same : joined c.deref.result.now ≡ m = rw c.deref.ensures.value c.in_ok-views.ensures in
    let made = end.ok k key.ok in
    let bytes : c.in_ok-to_vec-in-Ok-sign_pieces.field-0.items ≡ hmac_of a k m =
    grind (arith, common_steps, made, same, algorithm) in
    let cost = rw (algorithm, same) at end.cost in
    let count =
    tag_count a (length k) (length m) 0 c.new-meter.ensures (search rules, search rules) key.cost
    cost in
    let shown = c.blocks-in-Ok-sign_pieces.ensures in
    let refused = rw (algorithm, same) at end.refused in
    rw (not_refused key.refused.1, not_refused refused.1) (cc (bytes, count, shown))
