-- SPDX-License-Identifier: ISC
use Rattle.std.proofs.Common.{refl}
use Rattle.ring_core.specs.Prelude.{family_256}
use Rattle.ring_core.proofs.Sha2FourWords.{sixteen-loaded}
use Rattle.ring_core.proofs.digest.sha2.by_instruction.read_block.Goals as goal

pub returns : goal.returns
returns c =
    let b = c.args.block.now in
    rw (
      c.read_words.ensures,
      c.read_words-2.ensures,
      c.read_words-3.ensures,
      c.read_words-4.ensures,
    ) (sixteen-loaded family_256 32 b refl)
