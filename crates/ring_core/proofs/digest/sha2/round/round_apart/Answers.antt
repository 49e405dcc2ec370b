-- SPDX-License-Identifier: ISC
use Rattle.std.proofs.Common.{◌^◌, arith, map, rules, slice_index}
use Rattle.ring_core.specs.Prelude.{choose, majority, round, temp1, Σ0, Σ1}
use Rattle.ring_core.proofs.Mapped.{terms_of_a, terms_of_temp1, value_read}
use Rattle.ring_core.proofs.digest.sha2.round.round_apart.Goals as goal

pub returns : goal.returns
unfolding round
returns g c = λ i k w are.
    let met = g.met.S.One.Sha2.numbers in
    let f = g.S.One.Sha2.family in
    let n = 2 ^ f.bits in
    let v = value_read (g.S.LaneWord.lane i) c.args.v 8 (search rules) in
    let x = slice_index (map (g.S.LaneWord.lane i) c.args.v) in
    let Ch = choose f.bits (x 4) (x 5) (x 6) in
    let T₁ = temp1 f (x 4) (x 5) (x 6) (x 7) k w in
    let first = terms_of_temp1 n (x 7) (Σ1 f (x 4)) Ch k w in
    let last = terms_of_a n T₁ (Σ0 f (x 0)) (majority (x 0) (x 1) (x 2)) in
    grind (arith, v, are, first, last, met.big_1_is, met.big_0_is, met.bits_are)
