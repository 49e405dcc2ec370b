-- SPDX-License-Identifier: ISC
use Rattle.std.proofs.Common.{◌≡◌, arith, length, rules}
use Rattle.ring_core.specs.Prelude.{InLanes}
use Rattle.ring_core.proofs.Vectors.{eight_read}
use Rattle.ring_core.proofs.Mapped.{value_read}
use Rattle.ring_core.proofs.digest.states.States.state.Goals as goal

pub returns : goal.returns
returns g c =
    let lane = λ (x : InLanes g.row.V.Denot). g.V.LaneWord.lane c.args.i x.0 in
    let states = c.args.self.now in
    let eight : length states.words ≡ 8 = search rules in
    grind (arith, value_read lane states.words 8 eight, eight_read lane states.words eight)
