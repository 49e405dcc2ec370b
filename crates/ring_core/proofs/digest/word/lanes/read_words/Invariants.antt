-- SPDX-License-Identifier: ISC
use Rattle.std.proofs.Common.{◌≡◌, ℕ, ◌<◌}
use Rattle.ring_core.specs.Prelude.{array_at, word_at}
use Rattle.ring_core.proofs.digest.word.lanes.read_words.Given as goal

abbrev pub invariant-each : goal.invariant-each
invariant-each g l = (k : ℕ) → k < l.i
    → g.V.LaneWord.lane k l.words ≡ word_at g.V.One.Word.bits (array_at l.blocks k) l.j
