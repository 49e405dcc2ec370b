-- SPDX-License-Identifier: ISC
use Rattle.std.proofs.Common.{arith, ◌∙◌, List, ℕ, ap, rules}
use Rattle.std.proofs.lemmas.Grind.{common_steps}
use Rattle.ring_core.specs.Prelude.{word_32}
use Rattle.ring_core.specs.Sha1.{block_step}
use Rattle.ring_core.proofs.Mapped.{all_five, first_five}
use Rattle.ring_core.proofs.digest.sha1.by_instruction.run_words.Goals as goal

pub returns : goal.returns
returns g c = record {
  words =
      λ b is.
      let state = c.args.state.now in
      let start = c.pack-words.ensures ∙ first_five word_32 state (search rules) _ _ _ _ _ in
      all_five c.unpack.result (search rules) ∙ c.unpack.ensures
      ∙ c.run_block.ensures b (c.block_of_words.ensures b is)
      ∙ ap (λ (h : List ℕ). block_step h b) start;
  rest = grind (arith, common_steps);
  cost = c.add_block.ensures;
}
