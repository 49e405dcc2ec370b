-- SPDX-License-Identifier: ISC
use Rattle.std.proofs.Common.{refl, sym}
use Rattle.ring_core.specs.Sha1.{rounds_from}
use Rattle.ring_core.proofs.Sha1Steps.{block_step-rounds}
use Rattle.ring_core.proofs.digest.sha1.by_instruction.run_block.Goals as goal

pub returns : goal.returns
unfolding rounds_from
returns g c = λ b words.
    let h = g.I.Sha1Instructions.variables c.args.state in
    let second = c.twenty_rounds-second.ensures h b 0 refl words refl in
    let third = c.twenty_rounds-third.ensures h b 5 refl second.1 second.0 in
    let fourth = c.twenty_rounds-fourth.ensures h b 10 refl third.1 third.0 in
    let last = c.twenty_rounds.ensures h b 15 refl fourth.1 fourth.0 in
    rw (c.add_state.ensures, last.0) (sym (block_step-rounds h b))
