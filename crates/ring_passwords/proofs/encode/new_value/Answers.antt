-- SPDX-License-Identifier: ISC
use Rattle.std.proofs.Common.{◌∙◌, rules}
use Rattle.ring_passwords.proofs.Fits.{too_long}
use Rattle.ring_passwords.proofs.encode.new_value.Goals as goal

pub returns-in-Err-clause-too_long : goal.returns-in-Err-clause-too_long
returns-in-Err-clause-too_long c = λ _.
    let salt = c.of-salt.ensures in
    too_long c.args.scheme c.args.password.now c.args.random c.args.iterations
    {error = c.in-Err.field-0} (search rules)
    (search rules) (rw salt.ok at salt.usable)
    (rw (c.as_ref.ensures ∙ salt.ok) at c.in-Err.ensures)
