-- SPDX-License-Identifier: ISC
use Rattle.std.proofs.Common.{refl}
use Rattle.ring_text.proofs.Cuts.{first_cut, not_cut}
use Rattle.ring_password_hash.specs.Text.{written}
use Rattle.ring_password_hash.proofs.text.field_into.Goals as goal

pub returns-in_err-field-clause-refused : goal.returns-in_err-field-clause-refused
returns-in_err-field-clause-refused c = λ _ bytes rest h apart e.
    not_cut c.args.end (written c.args.encoding bytes) rest c.args.text.now
    (c.in_err-field.ensures.refused refl) e

pub returns-in_err-len-clause-refused : goal.returns-in_err-len-clause-refused
returns-in_err-len-clause-refused c = λ _ bytes rest h apart e.
    let cut = first_cut c.in_ok-field.ensures.ok (written c.args.encoding bytes) rest apart e in
    c.in_err-len.ensures.refused refl bytes h cut.0
