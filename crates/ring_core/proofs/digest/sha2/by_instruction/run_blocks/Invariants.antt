-- SPDX-License-Identifier: ISC
use Rattle.ring_core.specs.Kernel.{RunsSha2}
use Rattle.ring_core.specs.Prelude.{family_256, words_32}
use Rattle.ring_core.proofs.digest.sha2.by_instruction.run_blocks.Given as goal

abbrev pub invariant-each : goal.invariant-each
invariant-each g l =
    RunsSha2 family_256 (words_32 l.fn.state) (g.I.Sha256Instructions.variables l.vectors)
    l.blocks.items.now l.i l.fn.meter l.meter
