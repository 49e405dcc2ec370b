-- SPDX-License-Identifier: ISC
use Rattle.std.proofs.Common.{◌≡◌, map, take}
use Rattle.ring_core.specs.Sha1 as sha1
use Rattle.ring_core.specs.Word.{word_32}
use Rattle.ring_speed.specs.Repeats.{words_after_steps}
use Rattle.ring_speed.specs.declared.blocks.TheConstants.{BLOCK_LEN_32}
use Rattle.ring_speed.proofs.blocks.run_sha1.Given as goal

abbrev pub invariant-steps : goal.invariant-steps
invariant-steps l =
    take 5 (map word_32 l.state)
    ≡ words_after_steps sha1.block_step BLOCK_LEN_32 (take 5 (map word_32 l.fn.state)) l.step
