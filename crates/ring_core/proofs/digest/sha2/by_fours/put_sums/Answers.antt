-- SPDX-License-Identifier: ISC
use Rattle.std.proofs.Common.{◌≡◌, ◌+◌, ◌*◌, refl, arith}
use Rattle.ring_core.specs.Prelude.{ready_sum}
use Rattle.ring_core.proofs.Schedule.{sums-set}
use Rattle.ring_core.proofs.digest.sha2.by_fours.put_sums.Goals as goal

pub returns : goal.returns
returns g c = λ b n at words ready.
    let f = g.S.One.Sha2.family in
    let met = g.met.S.One.Sha2.numbers in
    let e : 16 * c.args.turn + 4 * c.args.place ≡ 4 * n = omega arith in
    sums-set g.S.FourWords.words (ready_sum f b) c.args.sums.now c.args.place c.sums.result ready
    (omega arith)
    (rw (
      c.sums.ensures,
      c.four-constants.ensures,
      c.k.ensures,
      c.k-2.ensures,
      c.k-3.ensures,
      c.k-4.ensures,
      words,
      met.bits_are,
      e,
    ) refl)
