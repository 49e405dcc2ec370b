-- SPDX-License-Identifier: ISC
use Rattle.std.proofs.Common.{refl}
use Rattle.ring_core.proofs.digest.sha2.by_instruction.with_constants.Goals as goal

pub returns : goal.returns
returns c = λ b g at words.
    rw (
      c.vector-constants.ensures,
      c.k.ensures,
      c.k-2.ensures,
      c.k-3.ensures,
      c.k-4.ensures,
      words,
      at,
    ) refl
