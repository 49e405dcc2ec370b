-- SPDX-License-Identifier: ISC
use Rattle.ring_core.proofs.Sha1FourWords.{sixteen-first}
use Rattle.ring_core.proofs.digest.sha1.by_instruction.block_of_words.Goals as goal

pub returns : goal.returns
returns g c = λ b is.
    rw (
      c.ordered.ensures,
      c.ordered-2.ensures,
      c.ordered-3.ensures,
      c.ordered-4.ensures,
      c.words_of.ensures b is,
      c.words_of-2.ensures b is,
      c.words_of-3.ensures b is,
      c.words_of-4.ensures b is,
    ) (sixteen-first b)
