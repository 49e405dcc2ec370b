-- SPDX-License-Identifier: ISC
use Rattle.std.proofs.Common.{mod-lt, pow_pos, sym}
use Rattle.ring_core.specs.Prelude.{word_32}
use Rattle.ring_core.proofs.Sha2Instructions.{add-none}
use Rattle.ring_core.proofs.digest.instructions.sha256.round_of_sum.Goals as goal

pub returns : goal.returns
returns c =
    let wk = word_32 c.args.wk in
    c.round.ensures 0 wk 0 (sym (add-none wk (mod-lt c.args.wk.0 (pow_pos 32))))
