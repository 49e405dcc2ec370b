-- SPDX-License-Identifier: ISC
use Rattle.std.proofs.Common.{◌∙◌, rules}
use Rattle.ring_core.specs.Prelude.{word_32}
use Rattle.ring_core.proofs.Kernel.{runs-next, runs-none}
use Rattle.ring_core.proofs.Mapped.{first_five}
use Rattle.ring_core.proofs.digest.sha1.by_instruction.run_blocks.Goals as goal

pub each-init : goal.each-init
each-init g c =
    runs-none (c.pack-words.ensures
    ∙ first_five word_32 c.args.state.now (search rules) _ _ _ _ _)

pub each-preserved : goal.each-preserved
each-preserved g c =
    let run = c.run_block-words.ensures _ c.read_block.ensures in
    runs-next c.each.invariant (rw c.index.ensures at run) c.add_block.ensures
