-- SPDX-License-Identifier: ISC
use Rattle.ring.proofs.Each.{message-read}
use Rattle.ring.proofs.digest.lanes.blocks.fewest_blocks.Goals as goal

pub blocks_of-requires-clause-within : goal.blocks_of-requires-clause-within
blocks_of-requires-clause-within g c =
    rw (message-read c.args.messages.now c.messages.i)
    at (c.requires.within c.messages.i c.messages-test.true)
