-- SPDX-License-Identifier: ISC
use Rattle.std.proofs.Common.{refl}
use Rattle.ring_core.proofs.FourWords.{four_read}
use Rattle.ring_core.proofs.digest.sha1.by_fours.later_four.Goals as goal

pub returns : goal.returns
returns c =
    rw (
      c.rotate_four.ensures,
      four_read c.args.first c.fits-first.0,
      four_read c.args.second c.fits-second.0,
      four_read c.args.fifth c.fits-fifth.0,
      four_read c.args.seventh c.fits-seventh.0,
      four_read c.args.eighth c.fits-eighth.0,
    ) refl
