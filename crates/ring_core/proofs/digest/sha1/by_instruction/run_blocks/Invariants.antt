-- SPDX-License-Identifier: ISC
use Rattle.std.proofs.Common.{map, take}
use Rattle.ring_core.specs.Kernel.{RunsBlocks}
use Rattle.ring_core.specs.Prelude.{word_32}
use Rattle.ring_core.specs.Sha1.{block_step}
use Rattle.ring_core.proofs.digest.sha1.by_instruction.run_blocks.Given as goal

abbrev pub invariant-each : goal.invariant-each
invariant-each g l =
    RunsBlocks block_step 64 (take 5 (map word_32 l.fn.state))
    (g.I.Sha1Instructions.variables l.words) l.blocks.items.now l.i l.fn.meter l.meter
