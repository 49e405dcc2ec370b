-- SPDX-License-Identifier: ISC
use Rattle.std.proofs.Common.{◌+◌, slice_index, arith}
use Rattle.ring_core.specs.Prelude.{W}
use Rattle.ring_core.proofs.Sha2Steps.{rounds-next}
use Rattle.ring_core.proofs.digest.sha2.window.two_rounds.Goals as goal

pub returns : goal.returns
returns g c = λ i h b n t ready at below near before.
    let family = g.S.One.Sha2.family in
    let k = slice_index family.constants in
    let w = W family b in
    let words =
    c.pair-word.ensures (g.S.LaneWord.lane i) w n t ready (omega arith) below near in
    let first = c.round.ensures i (k t) (w t) (grind (arith, words.0, at)) in
    let second = c.round-2.ensures i (k (t + 1)) (w (t + 1)) (grind (arith, words.1, at)) in
    let next = rounds-next family h b in
    grind (arith, second, first, before, next t, next (t + 1))
