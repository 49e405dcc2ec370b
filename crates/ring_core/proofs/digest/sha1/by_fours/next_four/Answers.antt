-- SPDX-License-Identifier: ISC
use Rattle.std.proofs.Common.{[], ◌∷◌, slice_index, w32}
use Rattle.std.specs.Int.Bits.{xor_zero_r}
use Rattle.ring_core.specs.Sha1.{scheduled}
use Rattle.ring_core.proofs.FourWords.{four_read}
use Rattle.ring_core.proofs.Sha1FourWords.{scheduled-last, scheduled-lt}
use Rattle.ring_core.proofs.Vectors.{at_fits}
use Rattle.ring_core.proofs.digest.sha1.by_fours.next_four.Goals as goal

pub returns : goal.returns
returns c =
    let a = slice_index c.args.first in
    let b = slice_index c.args.second in
    let x = slice_index c.args.third in
    let d = slice_index c.args.fourth in
    let fits_a = at_fits w32 c.args.first c.fits-first.1 in
    let fits_b = at_fits w32 c.args.second c.fits-second.1 in
    let fits_x = at_fits w32 c.args.third c.fits-third.1 in
    let fits_d = at_fits w32 c.args.fourth c.fits-fourth.1 in
    let w = scheduled (d 1) (x 0) (a 2) (a 0) in
    let w_fits = scheduled-lt (fits_d 1) (fits_x 0) (fits_a 2) (fits_a 0) in
    rw (
      c.rotate_four.ensures,
      c.rotate_four-part.ensures,
      four_read c.args.first c.fits-first.0,
      four_read c.args.second c.fits-second.0,
      four_read c.args.third c.fits-third.0,
      four_read c.args.fourth c.fits-fourth.0,
    ) (λ i. xor_zero_r w i ∷ xor_zero_r (scheduled (d 2) (x 1) (a 3) (a 1)) i
    ∷ xor_zero_r (scheduled (d 3) (x 2) (b 0) (a 2)) i
    ∷ scheduled-last w (x 3) (b 1) (a 3) w_fits (fits_x 3) (fits_b 1) (fits_a 3) i ∷ [])
