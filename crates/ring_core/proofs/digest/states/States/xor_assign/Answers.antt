-- SPDX-License-Identifier: ISC
use Rattle.std.proofs.Common.{◌≡◌, arith, length, map, rules}
use Rattle.std.proofs.Math.ListN.{length-map}
use Rattle.ring_core.specs.Prelude.{InLanes}
use Rattle.ring_core.proofs.Vectors.{xor_eight}
use Rattle.ring_core.proofs.Mapped.{value_read}
use Rattle.ring_core.proofs.digest.states.States.xor_assign.Goals as goal

pub returns : goal.returns
returns g c = λ i.
    let lane = λ (x : InLanes g.row.V.Denot). g.V.LaneWord.lane i x.0 in
    let x = c.args.self.now.words in
    let y = c.args.other.now.words in
    let eight_x : length x ≡ 8 = search rules in
    let eight_y : length y ≡ 8 = search rules in
    let words =
    xor_eight (map lane x) (map lane y) (simp length-map eight_x) (simp length-map eight_y) in
    grind (arith, value_read lane x 8 eight_x, value_read lane y 8 eight_y, words)
