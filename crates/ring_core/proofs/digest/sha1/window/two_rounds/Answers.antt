-- SPDX-License-Identifier: ISC
use Rattle.std.proofs.Common.{◌+◌, refl, arith}
use Rattle.ring_core.specs.Sha1.{W}
use Rattle.ring_core.proofs.Sha1Steps.{rounds-next}
use Rattle.ring_core.proofs.digest.sha1.window.two_rounds.Goals as goal

pub returns : goal.returns
returns g c = λ i h b n ready below near before.
    let t = c.args.t in
    let w = W b in
    let words = c.pair-word.ensures (g.S.LaneWord.lane i) w n t ready refl below near in
    let first = c.round.ensures i (w t) (grind (arith, words.0)) in
    let second = c.round-2.ensures i (w (t + 1)) (grind (arith, words.1)) in
    let next = rounds-next h b in
    grind (arith, second, first, before, next t, next (t + 1))
