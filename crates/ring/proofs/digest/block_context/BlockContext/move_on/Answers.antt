-- SPDX-License-Identifier: ISC
use Rattle.ring.proofs.lemmas.digest.Updating.{moved_both}
use Rattle.ring.proofs.digest.block_context.BlockContext.move_on.Goals as goal

pub returns-clause-moved : goal.returns-clause-moved
returns-clause-moved c =
    rw c.put_front.ensures.front
    (moved_both c.complete-rest.ensures.moved c.update-leftover.ensures.moved)
