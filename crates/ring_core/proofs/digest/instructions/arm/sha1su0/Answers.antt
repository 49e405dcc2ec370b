-- SPDX-License-Identifier: ISC
use Rattle.std.proofs.Common.{refl}
use Rattle.ring_core.proofs.FourWords.{four_read}
use Rattle.ring_core.proofs.digest.instructions.arm.sha1su0.Goals as goal

pub returns : goal.returns
returns c =
    rw (
      four_read c.args.first c.fits-first.0,
      four_read c.args.second c.fits-second.0,
      four_read c.args.third c.fits-third.0,
      four_read c.args.first c.fits-first.0,
    ) refl
