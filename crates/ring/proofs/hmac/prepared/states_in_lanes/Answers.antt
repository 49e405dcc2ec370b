-- SPDX-License-Identifier: ISC
use Rattle.std.proofs.Common.{◌<◌, ◌≡◌, ◌∙◌, arith, get_or, length-take, length-take-le, rules}
use Rattle.std.proofs.lemmas.List.{get_or-take}
use Rattle.ring.specs.Prelude.{state_word_len, word_len}
use Rattle.ring.proofs.hmac.prepared.states_in_lanes.Goals as goal

pub new-requires-clause-sized : goal.new-requires-clause-sized
new-requires-clause-sized g c = λ i s below.
    let states = c.args.states.now in
    let lane : i < c.LANES.result = omega (arith, below, length-take c.LANES.result states) in
    let is = c.requires.sized i s (omega (arith, lane, c.LANES.ensures)) in
    let same : state_word_len (get_or states i s) ≡ word_len g.H.DigestBlock.algorithm =
    search (rules, is) in
    rw (get_or-take c.LANES.result states i s lane) (same ∙ g.met.H.DigestBlock.sized)

pub returns : goal.returns
returns g c = λ i s below.
    let states = c.args.states.now in
    let m = c.LANES.result in
    let lane : i < m = omega (arith, below, c.LANES.ensures) in
    rw (get_or-take m states i s lane) at
    (c.new.ensures i s (omega (arith, lane, length-take-le m states (omega arith))))
