-- SPDX-License-Identifier: ISC
use Rattle.std.proofs.Common.{ℕ, ◌<◌, ◌≤◌, length}
use Rattle.ring.specs.Prelude.{message_at}
use Rattle.ring.proofs.digest.lanes.blocks.fewest_blocks.Given as goal

abbrev pub invariant-messages : goal.invariant-messages
invariant-messages g l = (k : ℕ) → k < l.i
    → l.fewest ≤ g.B.Blocks.count l.algorithm (length (message_at l.messages k))
