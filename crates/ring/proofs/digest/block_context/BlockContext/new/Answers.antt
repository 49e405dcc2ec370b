-- SPDX-License-Identifier: ISC
use Rattle.std.proofs.Common.{refl}
use Rattle.ring.proofs.lemmas.digest.Blocks.{HasTaken-nil}
use Rattle.ring.proofs.digest.block_context.BlockContext.new.Goals as goal

pub returns-clause-stands : goal.returns-clause-stands
returns-clause-stands c =
    HasTaken-nil _ c.initial_state.ensures.words c.initial_state.ensures.spare refl
