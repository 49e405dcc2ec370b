-- SPDX-License-Identifier: ISC
use Rattle.ring_core.specs.Prelude.{family_256}
use Rattle.ring_core.proofs.FourWords.{four_read}
use Rattle.ring_core.proofs.Sha2FourWords.{W-next_words}
use Rattle.ring_core.proofs.digest.sha2.x86.X86Sha256Instructions.next_four.Goals as goal

pub returns : goal.returns
returns c = λ b n words.
    rw (c.sha256msg2.ensures, c.sha256msg1.ensures, four_read c.args.third c.fits-third.0)
    (W-next_words family_256 b n words)
