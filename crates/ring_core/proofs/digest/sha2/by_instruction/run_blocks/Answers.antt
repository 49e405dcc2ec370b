-- SPDX-License-Identifier: ISC
use Rattle.ring_core.proofs.Kernel.{runs-next}
use Rattle.ring_core.proofs.digest.sha2.by_instruction.run_blocks.Goals as goal

pub each-preserved : goal.each-preserved
each-preserved g c =
    let run = c.run_block-vectors.ensures _ c.read_block.ensures in
    runs-next c.each.invariant (rw c.index.ensures at run) c.add_block.ensures
