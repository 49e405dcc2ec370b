-- SPDX-License-Identifier: ISC
use Rattle.std.proofs.Common.{◌-◌, arith}
use Rattle.ring_core.specs.Prelude.{W}
use Rattle.ring_core.proofs.Sha2Steps.{W-next_two}
use Rattle.ring_core.proofs.digest.sha2.window.extend.Goals as goal

pub returns : goal.returns
returns g c = λ i b t from place ready.
    let f = g.S.LaneWord.lane i in
    let w = W g.S.One.Sha2.family b in
    let sixteen =
    c.pair-sixteen.ensures f w t (t - 16) ready (omega arith) (omega arith) (omega arith) in
    let fifteen =
    c.pair-fifteen.ensures f w t (t - 15) ready (omega arith) (omega arith) (omega arith) in
    let seven =
    c.pair-seven.ensures f w t (t - 7) ready (omega arith) (omega arith) (omega arith) in
    let two = c.pair-two.ensures f w t (t - 2) ready (omega arith) (omega arith) (omega arith) in
    let are = W-next_two g.S.One.Sha2.family b t from in
    let next = c.next_two.ensures in
    c.set_pair.ensures f w t ready place
    (rw (next.first i, sixteen.0, fifteen.0, seven.0, two.0) are.0)
    (rw (next.second i, sixteen.1, fifteen.1, seven.1, two.1) are.1)
