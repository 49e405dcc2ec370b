-- SPDX-License-Identifier: ISC
use Rattle.std.proofs.Common.{w32}
use Rattle.ring_core.proofs.Sha1FourWords.{W-next_words}
use Rattle.ring_core.proofs.Sha1Instructions.{arm-next-sha1}
use Rattle.ring_core.proofs.Vectors.{at_fits}
use Rattle.ring_core.proofs.digest.sha1.arm.ArmSha1Instructions.next_four.Goals as goal

pub returns : goal.returns
returns c = λ b n words.
    rw (
      c.sha1su1.ensures,
      c.sha1su0.ensures,
      arm-next-sha1 c.args.first c.args.second c.args.third c.args.fourth
          (at_fits w32 c.args.first c.fits-first.1) (at_fits w32 c.args.second c.fits-second.1)
          (at_fits w32 c.args.third c.fits-third.1) (at_fits w32 c.args.fourth c.fits-fourth.1),
    ) (W-next_words b n words)
