-- SPDX-License-Identifier: ISC
use Rattle.std.proofs.Common.{arith}
use Rattle.ring_core.specs.Prelude.{word_at}
use Rattle.ring_core.proofs.Schedule.{window-set}
use Rattle.ring_core.proofs.digest.word.lanes.load.Goals as goal

pub words-preserved : goal.words-preserved
words-preserved g c = λ i b is.
    window-set (g.S.LaneWord.lane i) (word_at g.S.One.Word.bits b) c.words.window c.words.t
    c.word.result (c.words.invariant i b is) (omega arith) (c.word.ensures i b is)
