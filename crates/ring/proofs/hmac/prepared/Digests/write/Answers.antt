-- SPDX-License-Identifier: ISC
use Rattle.std.proofs.Common.{arith, length-set}
use Rattle.std.proofs.lemmas.Grind.{common_steps}
use Rattle.ring.proofs.Each.{set-more}
use Rattle.ring.proofs.hmac.prepared.Digests.write.Goals as goal

pub lanes-preserved : goal.lanes-preserved
lanes-preserved g c =
    grind (arith, common_steps, length-set, set-more)
