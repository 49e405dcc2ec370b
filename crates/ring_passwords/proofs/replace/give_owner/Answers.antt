-- SPDX-License-Identifier: ISC
use Rattle.std.proofs.Common.{◌≡◌, ◌∙◌, false, sym}
use Rattle.std.specs.Prelude.{is_ok}
use Rattle.ring_passwords.proofs.Replaced.{owner_given}
use Rattle.ring_passwords.proofs.replace.give_owner.Goals as goal

pub returns : goal.returns
returns g c =
    let refused : is_ok c.set_owner.result ≡ false = sym c.is_ok.ensures.value ∙ c.if-is_ok.false in
    owner_given c.args.new.now c.args.old c.is_ok-2.result (rw refused at c.set_owner.ensures)
    (rw (← c.is_ok-2.ensures.value) at c.set_owner-2.ensures)
