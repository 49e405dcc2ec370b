-- SPDX-License-Identifier: ISC
use Rattle.ring_core.proofs.ShortForms.{choose-plus}
use Rattle.ring_core.proofs.digest.word.lanes.plus_choose.Goals as goal

pub returns : goal.returns
returns g c = λ i.
    let fits = g.met.W.LaneWord.fits i in
    rw (
      c.plus-2.ensures i,
      c.plus.ensures i,
      c.bit_xor-left.ensures i,
      c.bit_and.ensures i,
      c.bit_and-2.ensures i,
    ) (choose-plus _ _ _ _ _ (fits c.args.x) (fits c.args.z))
