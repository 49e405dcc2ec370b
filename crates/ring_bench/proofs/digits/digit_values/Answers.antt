-- SPDX-License-Identifier: ISC
use Rattle.std.proofs.Common.{◌≡◌, ◌∙◌, arith}
use Rattle.std.proofs.lemmas.List.{length-set}
use Rattle.ring_bench.specs.Digits.{value_in_table}
use Rattle.ring_bench.proofs.Pairs.{Firsts-set}
use Rattle.ring_bench.proofs.digits.digit_values.Goals as goal

pub bytes-preserved : goal.bytes-preserved
bytes-preserved c =
    let values = c.bytes.values in
    let i = c.bytes.i in
    let value = c.digit_value in
    let all = c.bytes.invariant.all in
    let below = c.bytes-test.true in
    let index : c.bytes.byte ≡ i = omega (arith, c.bytes.invariant.byte, below) in
    record {
      byte = search arith;
      all = length-set values i value.result ∙ all;
      each = Firsts-set (λ byte x. x ≡ value_in_table byte) values i value.result
          (omega (arith, all, below)) c.bytes.invariant.each (rw index at value.ensures);
    }

pub returns : goal.returns
returns c = λ byte below. c.bytes.invariant.each byte (omega (arith, below, c.bytes-test.false))
