-- SPDX-License-Identifier: ISC
use Rattle.std.proofs.Common.{◌≡◌}
use Rattle.ring_core.specs.Sha2.{block_step, family_256, words_32}
use Rattle.ring_speed.specs.Repeats.{words_after_steps}
use Rattle.ring_speed.specs.declared.blocks.TheConstants.{BLOCK_LEN_32}
use Rattle.ring_speed.proofs.blocks.run_sha256.Given as goal

abbrev pub invariant-steps : goal.invariant-steps
invariant-steps l =
    words_32 l.state
    ≡ words_after_steps (block_step family_256) BLOCK_LEN_32 (words_32 l.fn.state) l.step
