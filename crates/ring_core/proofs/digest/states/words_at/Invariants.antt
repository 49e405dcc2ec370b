-- SPDX-License-Identifier: ISC
use Rattle.std.proofs.Common.{◌≡◌, ℕ, ◌<◌, length, slice_index, map}
use Rattle.ring_core.specs.Prelude.{array_at}
use Rattle.ring_core.proofs.digest.states.words_at.Given as goal

abbrev pub invariant-lanes : goal.invariant-lanes
invariant-lanes g l = ((k : ℕ) → k < l.i → g.V.LaneWord.lane k l.words
    ≡ slice_index (map g.V.One.Word.value (array_at l.states k)) l.at)
    × ((k : ℕ) → k < l.i → length (array_at l.states k) ≡ 8)
