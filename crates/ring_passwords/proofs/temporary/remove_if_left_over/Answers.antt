-- SPDX-License-Identifier: ISC
use Rattle.std.proofs.Common.{[], inr, refl}
use Rattle.ring_passwords.specs.Replace.{IsLeftOver}
use Rattle.ring_passwords.proofs.Events.{Does-nothing}
use Rattle.ring_passwords.proofs.temporary.remove_if_left_over.Goals as goal

pub returns-else-is_left_over : goal.returns-else-is_left_over
returns-else-is_left_over g c =
    let name = g.S.Steps.name c.args.entry.now in
    let other : IsLeftOver c.args.path.now name → ⊥ =
    λ left. let told = c.is_left_over.ensures.1 (rw c.name_of.ensures left) in
    let denied = c.if-is_left_over.false in absurd cc in
    record { events = []; are = inr (other, refl); does = Does-nothing _ }
