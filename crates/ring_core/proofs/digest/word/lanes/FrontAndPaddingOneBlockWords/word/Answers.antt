-- SPDX-License-Identifier: ISC
use Rattle.std.proofs.Common.{arith, map}
use Rattle.std.proofs.Math.ListN.{length-map}
use Rattle.ring_core.proofs.Mapped.{past_front, value_read}
use Rattle.ring_core.proofs.digest.word.lanes.FrontAndPaddingOneBlockWords.word.Goals as goal

pub returns-else-t : goal.returns-else-t
returns-else-t g c = λ i b is.
    let lane = g.S.LaneWord.lane i in
    let value = g.S.One.Word.value in
    let block = c.args.self.now in
    let whole = c.requires.whole in
    let past = past_front g.row.N c.args.t (map lane block.front.now) (map value block.padding.now)
    (omega (arith, length-map block.front.now lane, whole)) (omega arith) in
    let word = is.word c.args.t (omega arith) in
    grind (arith, value_read value block.padding.now 16 whole.2, past, word)
