-- SPDX-License-Identifier: ISC
use Rattle.ring_core.proofs.digest.sha2.by_fours.run_words.Goals as goal

pub returns : goal.returns
returns g c = record {
  words = λ b is.
      let here = rw (← g.met.S.One.Sha2.numbers.bits_are) at is in
      c.run_block.ensures 0 b (c.four_of-first.ensures b here) (c.four_of-second.ensures b here)
      (c.four_of-third.ensures b here) (c.four_of-fourth.ensures b here);
  cost = c.add_block.ensures;
}
