-- SPDX-License-Identifier: ISC
use Rattle.std.proofs.Common.{◌∙◌, ◌<◌, arith, sym}
use Rattle.std.proofs.lemmas.Fmt.{decimal_injective}
use Rattle.std.proofs.lemmas.Grind.{common_steps}
use Rattle.std.specs.Int.NonZero.{non_zero_u32_get}
use Rattle.ring_text.proofs.count.count_in.Goals as goal

pub returns-in_default-clause-refused : goal.returns-in_default-clause-refused
returns-in_default-clause-refused c = λ _ d small e.
    let read = c.in_ok-number.ensures.ok in
    let same = decimal_injective c.in_ok-number.number (non_zero_u32_get d) (omega (arith, read.1))
    (omega (arith, small)) (sym read.0 ∙ e) in
    grind (arith, common_steps, same, small, c.in_default.is, c.try_from.ensures)

pub returns-clause-refused : goal.returns-clause-refused
returns-clause-refused c = λ none d small e.
    let read = c.in_ok-number.ensures.ok in
    let some : 0 < non_zero_u32_get d = d.ok in
    let same = decimal_injective c.in_ok-number.number (non_zero_u32_get d) (omega (arith, read.1))
    (omega (arith, small)) (sym read.0 ∙ e) in
    grind (arith, common_steps, same, some, none)
