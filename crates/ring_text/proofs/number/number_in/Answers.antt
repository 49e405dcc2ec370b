-- SPDX-License-Identifier: ISC
use Rattle.std.proofs.Common.{◌≡◌, ap, arith, subst, sym, ◌∙◌}
use Rattle.std.proofs.lemmas.Fmt.{decimal_is_IsNumeral}
use Rattle.std.proofs.lemmas.Grind.{common_steps}
use Rattle.std.specs.Str.Parse.{AllDigits, digits_value}
use Rattle.ring_text.proofs.number.number_in.Goals as goal

pub returns-then-not-is_same-clause-refused : goal.returns-then-not-is_same-clause-refused
returns-then-not-is_same-clause-refused c = λ _ n small e.
    let numeral = decimal_is_IsNumeral n small in
    let is : digits_value 10 c.args.digits.now ≡ n = ap (digits_value 10) e ∙ numeral.1 in
    let value = c.value_of-value.ensures (subst (AllDigits 10) (sym e) numeral.0.1)
    (omega (arith, is, small)) in
    grind (arith, common_steps, is, value)
