-- SPDX-License-Identifier: ISC
use Rattle.std.proofs.Common.{arith}
use Rattle.ring_core.proofs.Rotation.{rotr-inside}
use Rattle.ring_core.proofs.digest.sha2.round.two_rotations_nested.Goals as goal

pub returns : goal.returns
returns g c = λ i.
    let fits = g.met.S.LaneWord.fits i c.args.words in
    let a = c.args.first in
    let b = c.args.second in
    grind (arith, rotr-inside g.S.One.Word.bits a b (omega arith) (omega arith) fits fits)
