-- SPDX-License-Identifier: ISC
use Rattle.std.proofs.Common.{ℕ, List, map}
use Rattle.ring_core.specs.Prelude.{IsWindow, word_at}
use Rattle.ring_core.proofs.digest.word.lanes.load.Given as goal

abbrev pub invariant-words : goal.invariant-words
invariant-words g l = (i : ℕ) (b : List ℕ) → g.B.BlockWords.is_block i l.block b
    → IsWindow (word_at g.S.One.Word.bits b) (map (g.S.LaneWord.lane i) l.window) l.t
