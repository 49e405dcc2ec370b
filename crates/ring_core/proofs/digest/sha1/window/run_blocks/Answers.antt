-- SPDX-License-Identifier: ISC
use Rattle.std.proofs.Common.{◌∙◌, refl}
use Rattle.ring_core.proofs.Kernel.{runs-next}
use Rattle.ring_core.proofs.digest.sha1.window.run_blocks.Goals as goal

pub each-preserved : goal.each-preserved
each-preserved c =
    let run = c.run_block.ensures.words 0 _ refl in
    let before = c.each.invariant in
    let more = runs-next (record { words = before.words; cost = before.cost })
    (rw c.index.ensures at run) c.add_block.ensures in
    record { words = more.words; rest = c.run_block.ensures.rest ∙ before.rest; cost = more.cost }
