-- SPDX-License-Identifier: ISC
use Rattle.std.proofs.Common.{◌≡◌, arith, length, rules}
use Rattle.ring_core.proofs.Vectors.{eight_read}
use Rattle.ring_core.proofs.Mapped.{value_read}
use Rattle.ring_core.proofs.digest.states.States.splat.Goals as goal

pub returns : goal.returns
returns g c = λ i.
    let value = g.V.One.Word.value in
    let state = c.args.state.now in
    let eight : length state ≡ 8 = search rules in
    grind (arith, value_read value state 8 eight, eight_read value state eight)
