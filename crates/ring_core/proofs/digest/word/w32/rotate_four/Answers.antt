-- SPDX-License-Identifier: ISC
use Rattle.std.proofs.Common.{arith, w32}
use Rattle.ring_core.proofs.Vectors.{shifts-rotr}
use Rattle.ring_core.proofs.digest.word.w32.rotate_four.Goals as goal

pub returns : goal.returns
returns c = shifts-rotr w32 4 c.args.count c.args.words (omega arith) c.fits-words
