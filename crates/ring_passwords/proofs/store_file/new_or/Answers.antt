-- SPDX-License-Identifier: ISC
use Rattle.ring_passwords.proofs.Events.{if_ok_weaker}
use Rattle.ring_passwords.proofs.store_file.new_or.Goals as goal

pub returns-then-is_made-clause-ok : goal.returns-then-is_made-clause-ok
returns-then-is_made-clause-ok g c =
    let made = c.is_made.ensures.0 c.if-is_made.true in
    if_ok_weaker c.new_store.result
    (λ store h. (made.0, made.1, h.0, h.1, h.2, h.3, h.4)) c.new_store.ensures.ok
