-- SPDX-License-Identifier: ISC
use Rattle.std.proofs.Common.{subst, ◌∙◌}
use Rattle.std.proofs.lemmas.Option.{IfSome_then}
use Rattle.ring_password_hash.specs.Stored.{IsTextOf, parts_of}
use Rattle.ring_passwords.proofs.check.read_stored.Goals as goal

pub returns-in_err-require_iterations-clause-too_many :
    goal.returns-in_err-require_iterations-clause-too_many
returns-in_err-require_iterations-clause-too_many g c = λ _.
    let value = parts_of c.in-Ok.stored in
    IfSome_then (g.R.Read.remaining c.args.reader.now) c.in_ok-text.ensures.ok
    (λ bytes line. record {
      value = value;
      has = subst (IsTextOf value) (c.deref.ensures.value ∙ line) c.in-Ok.ensures.0;
      holds = c.in_err-require_iterations.ensures.refused.1;
    })
