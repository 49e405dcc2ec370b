-- SPDX-License-Identifier: ISC
use Rattle.std.proofs.Common.{◌≡◌, ◌≤◌, drop}
use Rattle.ring_bench.specs.Field.{digits_value}
use Rattle.ring_bench.proofs.field.decimal_in.Given as goal

-- the digits that are left, behind the value so far, make the number
abbrev pub invariant-loop-digit : goal.invariant-loop-digit
invariant-loop-digit l = record {
  bound : l.value ≤ l.most;
  same : digits_value l.value (drop l.digit-index l.field) ≡ digits_value 0 l.field;
}
