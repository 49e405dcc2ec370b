-- SPDX-License-Identifier: ISC
use Rattle.std.proofs.Common.{◌-◌, refl, arith}
use Rattle.ring_core.specs.Sha1.{W}
use Rattle.ring_core.proofs.Sha1Steps.{W-next_two}
use Rattle.ring_core.proofs.digest.sha1.window.extend.Goals as goal

pub returns : goal.returns
returns g c = λ i b ready.
    let f = g.S.LaneWord.lane i in
    let w = W b in
    let t = c.args.t in
    let sixteen =
    c.pair-sixteen.ensures f w t (t - 16) ready (omega arith) (omega arith) (omega arith) in
    let fourteen =
    c.pair-fourteen.ensures f w t (t - 14) ready (omega arith) (omega arith) (omega arith) in
    let eight =
    c.pair-eight.ensures f w t (t - 8) ready (omega arith) (omega arith) (omega arith) in
    let three =
    c.pair-three.ensures f w t (t - 3) ready (omega arith) (omega arith) (omega arith) in
    let are = W-next_two b t c.requires.from in
    let next = c.next_two.ensures in
    c.set_pair.ensures f w t ready refl
    (rw (next.first i, sixteen.0, fourteen.0, eight.0, three.0) are.0)
    (rw (next.second i, sixteen.1, fourteen.1, eight.1, three.1) are.1)
