-- SPDX-License-Identifier: ISC
use Rattle.std.proofs.Common.{◌++◌, ◌∷◌, [], ◌∙◌, arith}
use Rattle.std.proofs.lemmas.Grind.{common_steps}
use Rattle.std.proofs.lemmas.List.{take_all}
use Rattle.ring.specs.Prelude.{joined}
use Rattle.ring.proofs.Feeding.{fed_piece, fed_tag-more}
use Rattle.ring.proofs.Lengths.{counted_tag}
use Rattle.ring.proofs.hkdf.rounds.round.Goals as goal

pub loop-piece-preserved : goal.loop-piece-preserved
loop-piece-preserved c =
    let before = c.loop-piece.invariant in
    let more = c.update_counted-in-loop-piece.ensures in
    fed_piece c.args.previous.now c.args.info.now c.loop-piece.piece-index _
    c.loop-piece-test.true
    (fed_tag-more _ before more.plain more.cost)

pub returns-clause-ok : goal.returns-clause-ok
returns-clause-ok c = λ k h.
    let more = c.update_counted-2.ensures.plain in
    let all = take_all c.loop-piece.piece-index c.args.info.now (omega arith) in
    let before = rw all at c.loop-piece.invariant in
    let tag = c.in-Ok.ensures.plain.ok k _ (more.stands k _ (before.stands k h)) in
    rw (more.algorithm ∙ before.algorithm) at tag

pub returns-clause-cost : goal.returns-clause-cost
returns-clause-cost c =
    let more = c.update_counted-2.ensures in
    let all = take_all c.loop-piece.piece-index c.args.info.now (omega arith) in
    let before = rw all at c.loop-piece.invariant in
    let bytes = c.args.previous.now ++ joined c.args.info.now in
    let index = c.args.index ∷ [] in
    let whole = fed_tag-more index before more.plain more.cost in
    grind (arith, common_steps, counted_tag whole.algorithm whole.taken c.in-Ok.ensures.cost)
