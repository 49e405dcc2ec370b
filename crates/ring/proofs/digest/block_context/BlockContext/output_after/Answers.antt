-- SPDX-License-Identifier: ISC
use Rattle.std.proofs.Common.{IsTrue}
use Rattle.ring.specs.Prelude.{As32, is_state_of}
use Rattle.ring.proofs.lemmas.digest.Finishing.{front_of}
use Rattle.ring.proofs.digest.block_context.BlockContext.output_after.Goals as goal

pub returns-in-As32-clause-bytes : goal.returns-in-As32-clause-bytes
returns-in-As32-clause-bytes c =
    let b = c.args.self.now in
    let sized : IsTrue (is_state_of b.algorithm (As32 c.in-As32.words)) =
    rw c.in-As32.is at b.sized in
    let run = c.run_blocks_32 in
    front_of _ (As32 run.new.words) b.algorithm _ c.short_output.ensures.bytes
    c.short_output.ensures.count sized (rw c.in-As32.is run.ensures.words)
