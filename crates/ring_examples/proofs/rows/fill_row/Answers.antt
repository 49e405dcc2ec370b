-- SPDX-License-Identifier: ISC
use Rattle.ring_examples.proofs.NewValues.{can_keep-new, reads-value, written-text}
use Rattle.ring_examples.proofs.rows.fill_row.Goals as goal

pub returns-clause-right : goal.returns-clause-right
returns-clause-right c = λ most within.
    let made = c.in_ok-stored.ensures in
    let k = c.args.scheme in
    let p = c.args.password.now in
    let s = c.args.salt.now in
    let can = can_keep-new _ k p s c.args.iterations made.0 in
    reads-value (written-text c.in_ok-stored.stored _ c.in_ok-len.ensures made.2 made.1)
    (c.new_value_is_the_passwords.ensures k p s c.args.iterations most can within)
