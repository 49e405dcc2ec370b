-- SPDX-License-Identifier: ISC
use Rattle.std.proofs.lemmas.Grind.{common_steps}
use Rattle.std.proofs.Common.{arith}
use Rattle.ring.proofs.lemmas.digest.Finishing.{taken_len}
use Rattle.ring.proofs.Lanes.{ended-digest, words_after-end}
use Rattle.ring.proofs.digest.block_context.BlockContext.final_state.Goals as goal

pub returns-clause-ok : goal.returns-clause-ok
returns-clause-ok c =
    grind (arith, common_steps, ended-digest, taken_len, words_after-end)
