-- SPDX-License-Identifier: ISC
use Rattle.std.proofs.Common.{mod-lt, pow_pos, rules}
use Rattle.ring_core.proofs.Mapped.{all_five, number_at}
use Rattle.ring_core.proofs.Sha1Instructions.{turned-back}
use Rattle.ring_core.proofs.digest.sha1.x86.X86Sha1Instructions.pack.Goals as goal

pub returns : goal.returns
returns c =
    let e = number_at c.args.words 4 in
    rw (c.vector.ensures, c.vector-2.ensures, c.rotr.ensures, turned-back e (mod-lt _ (pow_pos 32)))
    (all_five c.args.words (search rules))
