-- SPDX-License-Identifier: ISC
use Rattle.std.proofs.Common.{◌^◌, arith, rules}
use Rattle.ring_core.specs.Prelude.{round}
use Rattle.ring_core.proofs.Mapped.{sum_of_pair, value_read}
use Rattle.ring_core.proofs.digest.sha2.round.round_nested.Goals as goal

pub returns : goal.returns
unfolding round
returns g c = λ i k w are.
    let met = g.met.S.One.Sha2.numbers in
    let v = value_read (g.S.LaneWord.lane i) c.args.v 8 (search rules) in
    let sums = sum_of_pair (2 ^ g.S.One.Sha2.family.bits) in
    grind (arith, v, are, sums, met.big_1_is, met.big_0_is, met.bits_are)
