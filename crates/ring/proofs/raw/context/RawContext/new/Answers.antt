-- SPDX-License-Identifier: ISC
use Rattle.std.proofs.Common.{◌∙◌}
use Rattle.ring.specs.Prelude.{RawStandsFor, StandsFor}
use Rattle.ring.proofs.raw.context.RawContext.new.Goals as goal

pub returns-clause-stands : goal.returns-clause-stands
unfolding StandsFor RawStandsFor
returns-clause-stands c = λ m h.
    record {
      algorithm = c.number_of_digest.ensures;
      blocks = h.whole;
      state = c.numbers_of_block.ensures.stands h.whole h.taken;
      count = c.halves-completed_low.ensures ∙ h.taken.count;
      partial = c.args.context.now.partial;
      message = h.message;
    }
