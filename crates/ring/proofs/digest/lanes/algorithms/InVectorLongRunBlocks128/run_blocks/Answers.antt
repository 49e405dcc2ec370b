-- SPDX-License-Identifier: ISC
use Rattle.ring.proofs.lemmas.digest.LaneBlocks.{lane-long, spare-long}
use Rattle.ring.proofs.digest.lanes.algorithms.InVectorLongRunBlocks128.run_blocks.Goals as goal

pub returns-clause-words : goal.returns-clause-words
returns-clause-words g c = λ a i h is below has.
    lane-long a _ is has (c.block_data_order_lanes_counted.ensures.words i below)

pub returns-clause-spare : goal.returns-clause-spare
returns-clause-spare g c = λ a i h is below has.
    spare-long a is has (returns-clause-words g c a i h is below has)
