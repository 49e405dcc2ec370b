-- SPDX-License-Identifier: ISC
use Rattle.std.proofs.Common.{◌≡◌, rules, true}
use Rattle.std.specs.Prelude.{bit_and}
use Rattle.ring_passwords.specs.Event.{SetMode}
use Rattle.ring_passwords.proofs.Events.{on_err_noted, on_ok_noted}
use Rattle.ring_passwords.proofs.Replaced.{access_given, mode_refused}
use Rattle.ring_passwords.proofs.replace.give_access.Goals as goal

pub returns-clause-ok : goal.returns-clause-ok
returns-clause-ok g c =
    let new = c.args.new.now in
    let old = c.args.old in
    let given : c.give_owner.result ≡ true = search rules in
    on_ok_noted c.set_mode.result (SetMode new (bit_and old.mode 0o777)) _ _ c.set_mode.ensures
    (λ noted. access_given new old (rw given at c.give_owner.ensures) noted)

pub returns-clause-refused : goal.returns-clause-refused
returns-clause-refused g c =
    let new = c.args.new.now in
    let old = c.args.old in
    let given : c.give_owner.result ≡ true = search rules in
    on_err_noted c.set_mode.result (SetMode new (bit_and old.mode 0o777)) _ _ c.set_mode.ensures
    (λ noted. mode_refused new old (rw given at c.give_owner.ensures) noted)
