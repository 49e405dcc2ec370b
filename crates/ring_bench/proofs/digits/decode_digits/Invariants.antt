-- SPDX-License-Identifier: ISC
use Rattle.std.proofs.Common.{◌≡◌, ◌*◌, length}
use Rattle.ring_bench.proofs.Pairs.{Firsts, IsPair}
use Rattle.ring_bench.proofs.digits.decode_digits.Given as goal

-- the bytes so far are those that the pairs of digits make
abbrev pub invariant-pairs : goal.invariant-pairs
invariant-pairs l = record {
  two : length l.digits ≡ 2 * length l.bytes;
  each : Firsts (IsPair l.digits) l.bytes l.i;
}
