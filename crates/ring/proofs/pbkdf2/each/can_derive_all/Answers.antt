-- SPDX-License-Identifier: ISC
use Rattle.std.proofs.Common.{rules, sym, true≢false}
use Rattle.ring.proofs.Each.{message-read}
use Rattle.ring.proofs.pbkdf2.each.can_derive_all.Goals as goal

pub returns-then-not-can_derive_by : goal.returns-then-not-can_derive_by
returns-then-not-can_derive_by c =
    let i = c.places.i in (
      λ told. absurd (true≢false (sym told)),
      λ all.
          let read = rw (message-read c.args.secrets.now i, message-read c.args.salts.now i) at
          (all i c.places-test.true) in
          search (rules, c.can_derive_by.ensures.1 read, c.if-not-can_derive_by.true),
    )
