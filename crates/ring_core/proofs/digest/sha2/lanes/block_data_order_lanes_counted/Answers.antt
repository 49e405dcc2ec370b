-- SPDX-License-Identifier: ISC
use Rattle.std.proofs.Common.{refl}
use Rattle.ring_core.specs.Prelude.{array_at}
use Rattle.ring_core.proofs.digest.sha2.lanes.block_data_order_lanes_counted.Goals as goal

pub returns-clause-words : goal.returns-clause-words
returns-clause-words g c = λ i below.
    c.run_block.ensures i (array_at c.args.blocks.now i) (below, refl)
