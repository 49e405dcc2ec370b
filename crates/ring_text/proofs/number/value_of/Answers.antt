-- SPDX-License-Identifier: ISC
use Rattle.std.proofs.Common.{◌+◌, ◌<◌, arith, length}
use Rattle.std.proofs.lemmas.Bool.Decides.{nat_tests}
use Rattle.std.proofs.lemmas.Int.Digits.{digits_value_more}
use Rattle.std.proofs.lemmas.Str.{digit_value_digit}
use Rattle.std.proofs.lemmas.Str.Parse.{digit_at, digits_value-take-le}
use Rattle.ring_text.proofs.number.value_of.Goals as goal

pub loop-at-preserved : goal.loop-at-preserved
loop-at-preserved c = λ all small.
    let before : c.loop-at.at < length c.args.digits.now =
    grind (arith, nat_tests, c.loop-at-test.true) in
    let digit = digit_at c.args.digits.now c.loop-at.at all before in
    let more = digits_value_more 10 c.args.digits.now c.loop-at.at before in
    let front = digits_value-take-le 10 c.args.digits.now (c.loop-at.at + 1) (omega arith) in
    omega (
      arith,
      c.loop-at.invariant all small,
      c.saturating_sub-digit.ensures,
      c.from.ensures,
      digit_value_digit _ digit,
      more,
      front,
      small,
    )
