-- SPDX-License-Identifier: ISC
use Rattle.std.proofs.Common.{◌≡◌, ◌<◌, ℕ, List, [], arith, length}
use Rattle.ring_core.specs.Prelude.{chunk_at}
use Rattle.ring.specs.Prelude.{message_at}
use Rattle.ring.proofs.Each.{message-read, set-more}
use Rattle.ring.proofs.Rows.{block_len-most}
use Rattle.ring.proofs.digest.lanes.blocks.put_blocks.Goals as goal

pub put_block-requires : goal.put_block-requires
put_block-requires g c =
    let i = c.lanes.i in
    let read = message-read c.args.messages.now i in
    let below = c.lanes-test.true in (
      omega (arith, c.requires.whole, block_len-most c.args.algorithm),
      (
        c.requires.whole,
        (rw read at (c.requires.within i below), rw read at (c.requires.below i below)),
      ),
    )

pub lanes-preserved : goal.lanes-preserved
lanes-preserved g c =
    let bytes = λ (k : ℕ). g.B.Blocks.bytes c.args.algorithm (message_at c.args.messages.now k) in
    let room : c.lanes.i < length c.lanes.blocks =
    omega (arith, c.lanes.auto.blocks, c.requires.lanes, c.lanes-test.true) in
    set-more (λ k (block : List ℕ). block ≡ chunk_at g.row.N (bytes k) c.args.index) _ _ [] room
    c.lanes.invariant (rw (message-read c.args.messages.now c.lanes.i) c.put_block.ensures)
