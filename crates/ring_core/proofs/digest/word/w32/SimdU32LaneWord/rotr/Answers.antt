-- SPDX-License-Identifier: ISC
use Rattle.std.proofs.Common.{arith, ◌%◌, w32}
use Rattle.ring_core.proofs.Vectors.{at_rotr}
use Rattle.ring_core.proofs.digest.word.w32.SimdU32LaneWord.rotr.Goals as goal

pub returns : goal.returns
returns g c = λ i.
    at_rotr w32 g.row.L c.args.count c.args.self (omega arith) c.fits-self (i % g.row.L)
