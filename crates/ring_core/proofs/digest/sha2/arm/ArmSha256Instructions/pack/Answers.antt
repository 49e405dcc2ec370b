-- SPDX-License-Identifier: ISC
use Rattle.std.proofs.Common.{refl, rules}
use Rattle.ring_core.specs.Prelude.{word_32}
use Rattle.ring_core.proofs.Sha2Instructions.{word-read}
use Rattle.ring_core.proofs.Vectors.{eight_read}
use Rattle.ring_core.proofs.digest.sha2.arm.ArmSha256Instructions.pack.Goals as goal

pub returns : goal.returns
returns c =
    let state = c.args.state.now in
    rw (c.vector.ensures, c.vector-2.ensures)
    (simp (word-read state refl) (eight_read word_32 state (search rules)))
