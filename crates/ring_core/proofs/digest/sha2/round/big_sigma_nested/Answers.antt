-- SPDX-License-Identifier: ISC
use Rattle.std.proofs.Common.{arith}
use Rattle.ring_core.proofs.Rotation.{rotr-three}
use Rattle.ring_core.proofs.digest.sha2.round.big_sigma_nested.Goals as goal

pub returns : goal.returns
returns g c = λ i.
    let n = c.args.counts in
    let turned = rotr-three g.S.One.Word.bits n.0 n.1 n.2 (omega arith) (omega arith) (omega arith)
    (g.met.S.LaneWord.fits i c.args.x) in
    grind (arith, turned)
