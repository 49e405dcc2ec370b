-- SPDX-License-Identifier: ISC
use Rattle.ring_core.proofs.Sha1FourWords.{sixteen-first}
use Rattle.ring_core.proofs.digest.sha1.by_instruction.read_block.Goals as goal

pub returns : goal.returns
returns g c =
    let b = c.args.block.now in
    rw (
      c.ordered.ensures,
      c.ordered-2.ensures,
      c.ordered-3.ensures,
      c.ordered-4.ensures,
      c.read_words.ensures,
      c.read_words-2.ensures,
      c.read_words-3.ensures,
      c.read_words-4.ensures,
    ) (sixteen-first b)
