-- SPDX-License-Identifier: ISC
use Rattle.std.proofs.Common.{◌≤◌, length, refl, arith, ap}
use Rattle.ring.proofs.Rows.{block_len-most}
use Rattle.ring.proofs.lemmas.digest.Updating.{ahead_len, cost_moved, moved_none, updated_moved}
use Rattle.ring.proofs.digest.context.Context.add.Goals as goal

pub returns-then-input-room-clause-updated : goal.returns-then-input-room-clause-updated
returns-then-input-room-clause-updated c =
    let self = c.args.self.now in
    let kept = c.keep.ensures in
    let fits : self.num_pending ≤ length self.pending =
    omega (arith, block_len-most self.block.algorithm) in
    updated_moved self _ c.args.input.now
    (moved_none {m = c.args.meter.now} kept.block kept.pending) fits
    (omega (
      arith,
      ap length kept.pending,
      kept.count,
      ahead_len self.pending self.num_pending c.args.input.now fits,
    ))

pub returns-then-input-room-clause-cost : goal.returns-then-input-room-clause-cost
returns-then-input-room-clause-cost c =
    let self = c.args.self.now in
    let fits : self.num_pending ≤ length self.pending =
    omega (arith, block_len-most self.block.algorithm) in
    cost_moved self.pending self.num_pending c.args.input.now
    (moved_none {b = self.block} {m = c.args.meter.now} refl refl) fits
    (omega (arith, ahead_len self.pending self.num_pending c.args.input.now fits))

pub returns-clause-updated : goal.returns-clause-updated
returns-clause-updated c =
    let self = c.args.self.now in
    let on = c.move_on-left.ensures in
    updated_moved self _ c.args.input.now on.moved
    (omega (arith, block_len-most self.block.algorithm)) on.len

pub returns-clause-cost : goal.returns-clause-cost
returns-clause-cost c =
    let self = c.args.self.now in
    let on = c.move_on-left.ensures in
    cost_moved self.pending self.num_pending c.args.input.now on.moved
    (omega (arith, block_len-most self.block.algorithm)) (omega (arith, on.len, on.short))
