-- SPDX-License-Identifier: ISC
use Rattle.std.proofs.Common.{◌≡◌}
use Rattle.ring_core.specs.Sha2.{block_step, family_512, words_64}
use Rattle.ring_speed.specs.Repeats.{words_after_steps}
use Rattle.ring_speed.specs.declared.blocks.TheConstants.{BLOCK_LEN_64}
use Rattle.ring_speed.proofs.blocks.run_sha512.Given as goal

abbrev pub invariant-steps : goal.invariant-steps
invariant-steps l =
    words_64 l.state
    ≡ words_after_steps (block_step family_512) BLOCK_LEN_64 (words_64 l.fn.state) l.step
