-- SPDX-License-Identifier: ISC
use Rattle.std.proofs.lemmas.Grind.{common_steps}
use Rattle.std.proofs.Common.{arith}
use Rattle.ring.specs.Prelude.{digest_after}
use Rattle.ring.proofs.lemmas.digest.Finishing.{digest_of-after, taken_len}
use Rattle.ring.proofs.digest.block_context.BlockContext.finish_within.Goals as goal

pub returns-clause-any : goal.returns-clause-any
unfolding digest_after
returns-clause-any c =
    grind (arith, common_steps)

pub returns-clause-ok : goal.returns-clause-ok
returns-clause-ok c =
    grind (arith, common_steps, digest_of-after, returns-clause-any, taken_len)
