-- SPDX-License-Identifier: ISC
use Rattle.ring_core.proofs.Kernel.{runs-next}
use Rattle.ring_core.proofs.digest.sha2.by_fours.run_blocks.Goals as goal

pub each-preserved : goal.each-preserved
each-preserved g c =
    let run = c.run_block.ensures 0 _ c.read_four-first.ensures c.read_four-second.ensures
    c.read_four-third.ensures c.read_four-fourth.ensures in
    runs-next c.each.invariant (rw (c.index-block.ensures, c.requires) at run) c.add_block.ensures
