-- SPDX-License-Identifier: ISC
use Rattle.std.proofs.Common.{◌+◌, ◌*◌, arith, refl}
use Rattle.ring_core.proofs.digest.word.lanes.four_of.Goals as goal

pub returns : goal.returns
returns g c = λ b is.
    let value = g.S.One.Word.value in
    let t = 4 * c.args.j in
    rw (
      c.four.ensures,
      c.word_of.ensures value,
      c.word_of-2.ensures value,
      c.word_of-3.ensures value,
      c.word_of-4.ensures value,
      is.word t (omega arith),
      is.word (t + 1) (omega arith),
      is.word (t + 2) (omega arith),
      is.word (t + 3) (omega arith),
    ) refl
