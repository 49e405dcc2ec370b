-- SPDX-License-Identifier: ISC
use Rattle.std.proofs.Common.{◌++◌, ◌∙◌, ap, append_assoc, sym}
use Rattle.std.specs.Prelude.{codes}
use Rattle.ring_passwords.specs.Misuse.{misuse_text}
use Rattle.ring_passwords.specs.Schemes.{schemes_text}
use Rattle.ring_passwords.proofs.misuse.Misuse.append_to.Goals as goal

pub returns-in_ok-append_schemes-in-NoScheme : goal.returns-in_ok-append_schemes-in-NoScheme
returns-in_ok-append_schemes-in-NoScheme c = record {
  ok = c.in_ok-append_schemes-in-NoScheme.ensures.ok
      ∙ ap (λ xs. xs ++ schemes_text) c.in_ok-append-in-NoScheme.ensures.ok
      ∙ append_assoc c.args.line.now.items (codes "encode needs a scheme; the schemes are ")
      schemes_text
      ∙ ap (λ misuse. c.args.line.now.items ++ misuse_text misuse) (sym c.in-NoScheme.is);
}
