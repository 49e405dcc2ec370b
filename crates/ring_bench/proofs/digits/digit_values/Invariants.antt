-- SPDX-License-Identifier: ISC
use Rattle.std.proofs.Common.{◌≡◌, ◌%◌, length}
use Rattle.ring_bench.specs.Digits.{value_in_table}
use Rattle.ring_bench.proofs.Pairs.{Firsts}
use Rattle.ring_bench.proofs.digits.digit_values.Given as goal

-- the values so far are those of their bytes, and the next byte is the index
abbrev pub invariant-bytes : goal.invariant-bytes
invariant-bytes l = record {
  byte : l.byte ≡ l.i % 256;
  all : length l.values ≡ 256;
  each : Firsts (λ byte value. value ≡ value_in_table byte) l.values l.i;
}
