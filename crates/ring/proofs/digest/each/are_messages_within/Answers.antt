-- SPDX-License-Identifier: ISC
use Rattle.std.proofs.Common.{rules, sym, true≢false}
use Rattle.ring.proofs.Each.{message-read}
use Rattle.ring.proofs.digest.each.are_messages_within.Goals as goal

pub returns-then-not-is_message_within : goal.returns-then-not-is_message_within
returns-then-not-is_message_within c =
    let i = c.messages.i in (
      λ told. absurd (true≢false (sym told)),
      λ all. let within = rw (message-read c.args.messages.now i) at (all i c.messages-test.true) in
          search (rules, c.is_message_within.ensures.1 within, c.if-not-is_message_within.true),
    )
