-- SPDX-License-Identifier: ISC
use Rattle.std.proofs.Common.{◌+◌, ◌*◌, arith, refl}
use Rattle.ring_core.specs.Prelude.{word_32}
use Rattle.ring_core.proofs.digest.instructions.vector.words_of.Goals as goal

pub returns : goal.returns
returns g c = λ b is.
    let t = c.args.j in
    rw (
      c.vector.ensures,
      c.word_of.ensures word_32,
      c.word_of-2.ensures word_32,
      c.word_of-3.ensures word_32,
      c.word_of-4.ensures word_32,
      is.word (4 * t) (omega arith),
      is.word (4 * t + 1) (omega arith),
      is.word (4 * t + 2) (omega arith),
      is.word (4 * t + 3) (omega arith),
    ) refl
