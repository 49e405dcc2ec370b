-- SPDX-License-Identifier: ISC
use Rattle.std.proofs.Common.{◌%◌, w64}
use Rattle.ring_core.proofs.Vectors.{at_shr}
use Rattle.ring_core.proofs.digest.word.w64.SimdU64Vector.shift_right.Goals as goal

pub returns : goal.returns
returns g c = λ i. at_shr w64 g.row.L c.args.count c.args.self c.fits-self (i % g.row.L)
