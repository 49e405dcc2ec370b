-- SPDX-License-Identifier: ISC
use Rattle.std.proofs.Common.{◌%◌, w32}
use Rattle.ring_core.proofs.Vectors.{at_shr}
use Rattle.ring_core.proofs.digest.word.w32.SimdU32Vector.shift_right.Goals as goal

pub returns : goal.returns
returns g c = λ i. at_shr w32 g.row.L c.args.count c.args.self c.fits-self (i % g.row.L)
