-- SPDX-License-Identifier: ISC
use Rattle.std.proofs.Common.{[], arith, take_all}
use Rattle.ring.proofs.Feeding.{fed_more, fed_none, fed_piece}
use Rattle.ring.proofs.Lengths.{counted_end}
use Rattle.std.proofs.lemmas.Result.{on_ok_weaker}
use Rattle.ring.proofs.joined.digest_pieces.Goals as goal

pub pieces-init : goal.pieces-init
pieces-init c =
    let new = c.new-context.ensures in
    fed_none new.algorithm new.counted (omega arith) new.pending new.stands

pub pieces-preserved : goal.pieces-preserved
pieces-preserved c =
    let cost = c.update_counted.ensures.cost in
    let is = c.update_counted.ensures.plain in
    fed_piece [] c.args.pieces.now c.pieces.piece-index _ (omega arith)
    (fed_more _ c.pieces.invariant is.algorithm is.counted is.pending is.stands cost)

pub returns-clause-cost : goal.returns-clause-cost
returns-clause-cost c =
    let all = take_all c.pieces.piece-index c.args.pieces.now (omega arith) in
    let fed = rw all at c.pieces.invariant in
    on_ok_weaker c.finish_counted.result (counted_end fed.algorithm fed.taken)
    c.finish_counted.ensures.cost
