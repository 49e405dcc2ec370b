-- SPDX-License-Identifier: ISC
use Rattle.std.proofs.Common.{◌≡◌, true, get_or, arith, rules}
use Rattle.std.specs.Char.{is_ascii_digit}
use Rattle.ring_bench.proofs.Numbers.{too_large_at}
use Rattle.ring_bench.proofs.field.decimal_in.Goals as goal

pub returns-then-value-from : goal.returns-then-value-from
returns-then-value-from c =
    let so_far = c.loop-digit in
    let digit : is_ascii_digit (get_or c.args.field.now so_far.digit-index 0) ≡ true =
    search rules in
    too_large_at c.args.most so_far.value so_far.digit-index c.args.field.now
    c.loop-digit-test.true digit (omega arith) so_far.invariant.same
