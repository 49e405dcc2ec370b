-- SPDX-License-Identifier: ISC
use Rattle.std.proofs.Common.{arith, ◌%◌, w64}
use Rattle.ring_core.proofs.Vectors.{at_rotr}
use Rattle.ring_core.proofs.digest.word.w64.SimdU64LaneWord.rotr.Goals as goal

pub returns : goal.returns
returns g c = λ i.
    at_rotr w64 g.row.L c.args.count c.args.self (omega arith) c.fits-self (i % g.row.L)
