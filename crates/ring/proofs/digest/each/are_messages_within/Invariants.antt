-- SPDX-License-Identifier: ISC
use Rattle.std.proofs.Common.{ℕ, ◌<◌, length}
use Rattle.ring.specs.Prelude.{IsMessageWithin, message_at}
use Rattle.ring.proofs.digest.each.are_messages_within.Given as goal

abbrev pub invariant-messages : goal.invariant-messages
invariant-messages l =
    (k : ℕ) → k < l.i → IsMessageWithin l.algorithm (length (message_at l.messages k))
