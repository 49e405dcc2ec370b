-- SPDX-License-Identifier: ISC
use Rattle.std.proofs.Common.{map, refl, arith}
use Rattle.ring_core.specs.Prelude.{low_32}
use Rattle.ring_core.specs.Sha1.{ready_sum}
use Rattle.ring_core.proofs.FourWords.{low-lanes}
use Rattle.ring_core.proofs.Schedule.{sums-set}
use Rattle.ring_core.proofs.digest.sha1.by_fours.put_sums.Goals as goal

pub returns : goal.returns
returns c = λ b n at words ready.
    sums-set (map low_32) (ready_sum b) c.args.sums.now _ c.sums.result ready (omega arith)
    (rw (
      c.sums.ensures,
      c.four-constants.ensures,
      c.round_constant.ensures,
      c.round_constant-2.ensures,
      c.round_constant-3.ensures,
      c.round_constant-4.ensures,
      low-lanes c.args.words c.fits-words.1,
      words,
      at,
    ) refl)
