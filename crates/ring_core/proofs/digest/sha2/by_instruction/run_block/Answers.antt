-- SPDX-License-Identifier: ISC
use Rattle.std.proofs.Common.{refl, sym}
use Rattle.ring_core.specs.Prelude.{family_256, rounds_from}
use Rattle.ring_core.proofs.Sha2Steps.{block_step-rounds}
use Rattle.ring_core.proofs.digest.sha2.by_instruction.run_block.Goals as goal

pub returns : goal.returns
unfolding rounds_from
returns g c = λ b words.
    let h = g.I.Sha256Instructions.variables c.args.state in
    let second = c.turn_ahead-second.ensures h b 0 refl words refl in
    let third = c.turn_ahead-third.ensures h b 4 refl second.1 second.0 in
    let fourth = c.turn_ahead-fourth.ensures h b 8 refl third.1 third.0 in
    let last = c.turn_ahead.ensures h b 12 refl fourth.1 fourth.0 in
    rw (c.add_state.ensures, last.0) (sym (block_step-rounds family_256 h b))
