-- SPDX-License-Identifier: ISC
use Rattle.std.proofs.Common.{arith, refl}
use Rattle.std.specs.Prelude.{Some}
use Rattle.ring_password_hash.specs.Stored.{parts_of}
use Rattle.ring_examples.proofs.NewValues.{written-text}
use Rattle.ring_examples.proofs.rows.write_and_read.Goals as goal

pub returns-clause-ok : goal.returns-clause-ok
returns-clause-ok c =
    let has = written-text c.args.stored.now _ c.in_ok-len.ensures c.requires refl in
    cc (c.written_text_is_read_back.ensures _ _ (Some (parts_of c.in_ok-read.read)) has
    c.in_ok-read.ensures.0)

pub returns-in_err-read-clause-refused : goal.returns-in_err-read-clause-refused
returns-in_err-read-clause-refused c =
    absurd (c.in_err-read.ensures.1 _
    (written-text c.args.stored.now _ c.in_ok-len.ensures c.requires refl))

pub returns-in_err-len-clause-refused : goal.returns-in_err-len-clause-refused
returns-in_err-len-clause-refused c =
    absurd (omega (arith, c.in_err-len.ensures.1, c.requires.text.within, c.told-row))
