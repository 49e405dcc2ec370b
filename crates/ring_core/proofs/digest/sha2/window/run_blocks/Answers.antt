-- SPDX-License-Identifier: ISC
use Rattle.std.proofs.Common.{refl}
use Rattle.ring_core.proofs.Kernel.{runs-next}
use Rattle.ring_core.proofs.digest.sha2.window.run_blocks.Goals as goal

pub each-preserved : goal.each-preserved
each-preserved g c =
    let run = c.run_block.ensures 0 _ refl in
    runs-next c.each.invariant (rw (c.index.ensures, c.requires.whole) at run) c.add_block.ensures
