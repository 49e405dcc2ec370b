-- SPDX-License-Identifier: ISC
use Rattle.std.proofs.Common.{[], arith, take_all}
use Rattle.ring.specs.Prelude.{key_algorithm}
use Rattle.ring.proofs.Feeding.{fed_none, fed_piece, fed_tag-more}
use Rattle.ring.proofs.Lengths.{counted_tag}
use Rattle.std.proofs.lemmas.Result.{on_ok_weaker}
use Rattle.ring.proofs.Rows.{block_len-most}
use Rattle.ring.proofs.joined.sign_pieces.Goals as goal

pub parts-init : goal.parts-init
parts-init c =
    let new = c.with_key-context.ensures in
    fed_none new.algorithm new.counted (block_len-most (key_algorithm c.args.key.now)) new.pending
    (λ k h. new.stands k h)

pub parts-preserved : goal.parts-preserved
parts-preserved c =
    let fed = c.parts.invariant in
    let more = c.update_counted.ensures in
    fed_piece [] c.args.pieces.now c.parts.piece-index _ (omega arith)
    (fed_tag-more _ fed more.plain more.cost)

pub returns-clause-cost : goal.returns-clause-cost
returns-clause-cost c =
    let all = take_all c.parts.piece-index c.args.pieces.now (omega arith) in
    let fed = rw all at c.parts.invariant in
    on_ok_weaker c.sign_counted.result (counted_tag fed.algorithm fed.taken)
    c.sign_counted.ensures.cost
