-- SPDX-License-Identifier: ISC
use Rattle.std.proofs.Common.{arith}
use Rattle.ring_core.proofs.ShortForms.{choose-short}
use Rattle.ring_core.proofs.digest.word.lanes.choose_word.Goals as goal

pub returns : goal.returns
returns g c = λ i.
    let f = g.W.LaneWord.lane i in
    let fits = g.met.W.LaneWord.fits i in
    grind (
      arith,
      choose-short g.W.One.Word.bits (f c.args.x) (f c.args.y) (f c.args.z)
          (fits c.args.x) (fits c.args.z),
    )
