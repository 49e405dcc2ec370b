-- SPDX-License-Identifier: ISC
use Rattle.std.proofs.Common.{rules}
use Rattle.ring_core.proofs.FourWords.{four_read}
use Rattle.ring_core.proofs.digest.word.w32.joined.Goals as goal

pub returns : goal.returns
returns c = rw (four_read c.args.lanes c.fits-lanes.0) (search rules)
