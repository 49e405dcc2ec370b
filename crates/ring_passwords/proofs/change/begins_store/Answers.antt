-- SPDX-License-Identifier: ISC
use Rattle.std.proofs.Common.{◌∙◌, sym}
use Rattle.std.specs.Cmp.Lexicographic.{other_text}
use Rattle.ring_passwords.proofs.Marks.{begins}
use Rattle.ring_passwords.proofs.change.begins_store.Goals as goal

pub returns-clause-refused : goal.returns-clause-refused
returns-clause-refused c = λ refused store same.
    other_text _ _ (sym refused ∙ c.eq.ensures) (sym same ∙ begins store)
