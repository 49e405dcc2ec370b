-- SPDX-License-Identifier: ISC
use Rattle.std.proofs.Common.{◌≡◌, length, arith, rules}
use Rattle.std.proofs.lemmas.Grind.{common_steps}
use Rattle.ring.specs.Digest.{digest_of}
use Rattle.ring.specs.Pieces.{joined}
use Rattle.ring_bench.specs.Request.{digest_answer}
use Rattle.ring_bench.proofs.Counts.{digest_count}
use Rattle.ring_bench.proofs.Limits.{not_refused}
use Rattle.ring_bench.proofs.request.respond_digest.Goals as goal

pub returns-in-Ok : goal.returns-in-Ok
unfolding digest_answer
returns-in-Ok g c =
    let a = c.args.algorithm.now in
    let m = c.args.pieces.now.bytes.items in
    let end = c.in-Ok.ensures in
    let same : joined c.deref.result.now ≡ m = rw c.deref.ensures.value c.in_ok-views.ensures in
    let made = end.ok in
    let bytes : c.in_ok-to_vec-in-Ok.field-0.items ≡ digest_of a m =
    grind (arith, common_steps, made, same) in
    let cost = rw same at end.cost in
    let count = digest_count a (length m) c.new-meter.ensures (search rules) cost in
    let shown = c.blocks-in-Ok.ensures in
    let refused = rw same at end.refused in
    rw (not_refused refused.1) (cc (bytes, count, shown))
