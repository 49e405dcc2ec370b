-- SPDX-License-Identifier: ISC
use Rattle.ring_core.specs.Prelude.{family_256}
use Rattle.ring_core.proofs.Sha2FourWords.{W-next_words}
use Rattle.ring_core.proofs.Sha2Instructions.{arm-next}
use Rattle.ring_core.proofs.digest.sha2.arm.ArmSha256Instructions.next_four.Goals as goal

pub returns : goal.returns
returns c = λ b n words.
    rw (c.sha256su1.ensures, c.sha256su0.ensures, arm-next) (W-next_words family_256 b n words)
