-- SPDX-License-Identifier: ISC
use Rattle.std.proofs.Common.{◌≡◌, ◌++◌, ap, arith, sym, ◌∙◌}
use Rattle.std.proofs.lemmas.Grind.{common_steps}
use Rattle.std.proofs.lemmas.Option.{same_Some}
use Rattle.ring.specs.Prelude.{RawStandsFor, block_len}
use Rattle.ring.proofs.lemmas.raw.Numbers.{AreOfBlock, added_moved, taken_raw}
use Rattle.ring.proofs.Rows.{block_len-most}
use Rattle.ring.proofs.lemmas.digest.Updating.{cost_moved, message_moved}
use Rattle.ring.proofs.raw.context.RawContext.run_from.Goals as goal

pub returns-clause-stands : goal.returns-clause-stands
unfolding RawStandsFor
returns-clause-stands c = λ a m h.
    let raw = c.args.self.now in
    let own = c.requires in
    let is = taken_raw raw a h.blocks own.algorithm own.numbers h.algorithm h.state h.count in
    let moved = c.move_on-left.ensures.moved in
    let now = moved.taken h.blocks is.0 in
    let blocks = h.blocks ++ moved.front in
    let state = c.numbers_of_block-self.ensures.stands blocks now in
    record {
      algorithm = h.algorithm;
      blocks = blocks;
      state = grind (arith, moved.algorithm, is.1, state);
      count = c.halves-completed_low.ensures ∙ now.count;
      partial = omega (arith, c.move_on-left.ensures.short, ap block_len is.1);
      message = message_moved h.blocks _ _ moved h.message;
    }

pub returns-clause-any : goal.returns-clause-any
returns-clause-any c =
    let raw = c.args.self.now in
    let b = c.args.block in
    let moved = c.move_on-left.ensures.moved in
    let most = block_len-most b.algorithm in
    let before : AreOfBlock raw b = grind (arith, common_steps, c.requires, most) in
    added_moved c.args.input.now before (grind (arith, common_steps, most)) moved
    c.move_on-left.ensures.behind c.numbers_of_block-self.ensures.sized

pub returns-clause-cost : goal.returns-clause-cost
returns-clause-cost c = λ a named.
    let raw = c.args.self.now in
    let own = c.args.block.algorithm in
    let on = c.move_on-left.ensures in
    let same : own ≡ a = same_Some own a (sym c.requires.algorithm ∙ named) in
    rw same at (cost_moved raw.pending raw.num_pending c.args.input.now on.moved
    (omega (arith, c.requires.pending, block_len-most own)) (omega (arith, on.len, on.short)))
