-- SPDX-License-Identifier: ISC
use Rattle.ring_core.proofs.digest.sha1.by_fours.run_words.Goals as goal

pub returns : goal.returns
returns c = record {
  words =
      λ b is.
      c.run_block.ensures.words b (c.four_of-first.ensures b is) (c.four_of-second.ensures b is)
      (c.four_of-third.ensures b is) (c.four_of-fourth.ensures b is);
  rest = c.run_block.ensures.rest;
  cost = c.add_block.ensures;
}
