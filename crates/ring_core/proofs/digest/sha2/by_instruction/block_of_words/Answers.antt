-- SPDX-License-Identifier: ISC
use Rattle.std.proofs.Common.{refl}
use Rattle.ring_core.specs.Prelude.{family_256}
use Rattle.ring_core.proofs.Sha2FourWords.{sixteen-loaded}
use Rattle.ring_core.proofs.digest.sha2.by_instruction.block_of_words.Goals as goal

pub returns : goal.returns
returns c = λ b is.
    rw (
      c.words_of.ensures b is,
      c.words_of-2.ensures b is,
      c.words_of-3.ensures b is,
      c.words_of-4.ensures b is,
    ) (sixteen-loaded family_256 32 b refl)
