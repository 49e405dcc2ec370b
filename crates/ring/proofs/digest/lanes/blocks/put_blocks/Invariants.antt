-- SPDX-License-Identifier: ISC
use Rattle.std.proofs.Common.{◌≡◌, ℕ, ◌<◌}
use Rattle.ring_core.specs.Prelude.{array_at, chunk_at}
use Rattle.ring.specs.Prelude.{message_at}
use Rattle.ring.proofs.digest.lanes.blocks.put_blocks.Given as goal

-- the blocks of the first i messages are there
abbrev pub invariant-lanes : goal.invariant-lanes
invariant-lanes g l = (k : ℕ) → k < l.i → array_at l.blocks k
    ≡ chunk_at g.row.N (g.B.Blocks.bytes l.algorithm (message_at l.messages k)) l.index
