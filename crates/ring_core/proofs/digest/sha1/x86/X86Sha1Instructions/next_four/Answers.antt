-- SPDX-License-Identifier: ISC
use Rattle.ring_core.proofs.FourWords.{four_read}
use Rattle.ring_core.proofs.Sha1Instructions.{intel-next-words}
use Rattle.ring_core.proofs.digest.sha1.x86.X86Sha1Instructions.next_four.Goals as goal

pub returns : goal.returns
returns c = λ b n words.
    rw (c.sha1msg2.ensures, c.sha1msg1.ensures, four_read c.args.third c.fits-third.0)
    (intel-next-words b n c.args.first c.args.second c.args.third c.args.fourth words)
