-- SPDX-License-Identifier: ISC
use Rattle.std.proofs.Common.{◌∙◌, sym}
use Rattle.ring_password_hash.proofs.text.put_kept.Goals as goal

pub put_keys-requires : goal.put_keys-requires
put_keys-requires c = c.requires (sym c.row-row.ensures.keeps_keys ∙ c.if-row.true)

pub returns-then-row : goal.returns-then-row
returns-then-row c = rw (← c.row-row.ensures.keeps_keys, c.if-row.true) c.put_keys.ensures

pub returns : goal.returns
returns c =
    let row = c.row-row.ensures in
    rw (← row.keeps_keys, c.if-row.false, ← row.kept) c.put_field.ensures
