-- SPDX-License-Identifier: ISC
use Rattle.std.proofs.Common.{◌∙◌}
use Rattle.ring_core.proofs.Kernel.{runs-next}
use Rattle.ring_core.proofs.digest.sha1.by_fours.run_blocks.Goals as goal

pub each-preserved : goal.each-preserved
each-preserved c =
    let run = c.run_block.ensures.words _ c.read_four-first.ensures c.read_four-second.ensures
    c.read_four-third.ensures c.read_four-fourth.ensures in
    let before = c.each.invariant in
    let more = runs-next (record { words = before.words; cost = before.cost })
    (rw c.index-block.ensures at run) c.add_block.ensures in
    record { words = more.words; rest = c.run_block.ensures.rest ∙ before.rest; cost = more.cost }
