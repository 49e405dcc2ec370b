-- SPDX-License-Identifier: ISC
use Rattle.std.proofs.Common.{refl}
use Rattle.ring_core.specs.Prelude.{family_256}
use Rattle.ring.specs.Prelude.{SHA256}
use Rattle.ring.proofs.lemmas.digest.LaneBlocks.{lane-sha2, spare-none}
use Rattle.ring.proofs.digest.lanes.algorithms.InVectorSha256RunBlocks64.run_blocks.Goals as goal

pub returns-clause-words : goal.returns-clause-words
returns-clause-words g c = λ a i h is below has.
    rw is (lane-sha2 SHA256 family_256 _ refl (rw is at has)
    (c.block_data_order_lanes_counted.ensures.words i below))

pub returns-clause-spare : goal.returns-clause-spare
returns-clause-spare g c = λ a i h is below has.
    spare-none a (rw is refl) has (returns-clause-words g c a i h is below has)
