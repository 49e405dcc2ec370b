-- SPDX-License-Identifier: ISC
use Rattle.ring_core.specs.Instructions.{sha256hash_step}
use Rattle.ring_core.proofs.Sha2Instructions.{arm-both, arm-round, four-sums}
use Rattle.ring_core.proofs.digest.sha2.arm.ArmSha256Instructions.four_rounds.Goals as goal

pub returns : goal.returns
returns c = λ h b n sums before.
    rw (c.sha256h.ensures, c.sha256h2.ensures, arm-both _ _ _, sums)
    (four-sums sha256hash_step arm-round h b n before)
