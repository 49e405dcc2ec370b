-- SPDX-License-Identifier: ISC
use Rattle.std.proofs.Common.{◌^◌, refl}
use Rattle.ring_core.proofs.FourWords.{four_read, plus-words}
use Rattle.ring_core.proofs.digest.word.w64.WrappingU64FourWords.sums.Goals as goal

pub returns : goal.returns
returns c =
    rw (plus-words (2 ^ 64), four_read c.args.x c.fits-x.0, four_read c.args.y c.fits-y.0) refl
