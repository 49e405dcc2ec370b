-- SPDX-License-Identifier: ISC
use Rattle.std.proofs.Common.{◌≡◌, ◌+◌, ◌*◌, ◌%◌, ◌==◌, length, false, arith, rules}
use Rattle.std.proofs.lemmas.List.{length-set}
use Rattle.std.proofs.Math.ListN.{get_or}
use Rattle.ring_bench.proofs.Pairs.{Firsts, Firsts-set, IsPair, decode_pairs-made}
use Rattle.ring_bench.proofs.digits.decode_digits.Goals as goal

pub pairs-preserved : goal.pairs-preserved
pairs-preserved c =
    let digits = c.args.digits.now in
    let i = c.pairs.i in
    let values = c.digit_values-values in
    let first = get_or digits (2 * i) 0 in
    let second = get_or digits (2 * i + 1) 0 in
    let byte = get_or values.result first 0 * 16 + get_or values.result second 0 in
    let high = values.ensures first (search rules) in
    let low = values.ensures second (search rules) in
    let made : IsPair digits i byte = record {
      high = omega (arith, high, c.if-high-ge-RADIX.false);
      low = omega (arith, low, c.if-low-ge-RADIX.false);
      made = omega (arith, high, low);
    } in
    let two = c.pairs.invariant.two in
    record {
      two = omega (arith, length-set c.pairs.bytes i byte, two);
      each = Firsts-set (IsPair digits) c.pairs.bytes i byte (omega (arith, c.pairs-test.true))
          c.pairs.invariant.each made;
    }

pub returns : goal.returns
returns c = λ yes.
    let digits = c.args.digits.now in
    let two = c.pairs.invariant.two in
    let even : (length digits % 2 == 1) ≡ false = search arith in
    let each : Firsts (IsPair digits) c.pairs.bytes (length c.pairs.bytes) =
    λ k below. c.pairs.invariant.each k (omega (arith, below, c.pairs-test.false)) in
    rw even (decode_pairs-made 0 digits c.pairs.bytes two each)
