-- SPDX-License-Identifier: ISC
use Rattle.std.proofs.Common.{◌≡◌, ℕ, ◌<◌, get_or, length, map}
use Rattle.ring_core.specs.Prelude.{array_at}
use Rattle.ring.specs.Prelude.{DynState, words}
use Rattle.ring.proofs.digest.lanes.algorithms.words_of.Given as goal

-- the words of the first i states are there
abbrev pub invariant-lanes : goal.invariant-lanes
invariant-lanes g l = (length l.all ≡ 8) × ((k : ℕ) (s : DynState) → k < l.i
    → map g.W.Word.value (array_at l.all k) ≡ words (get_or l.fn.states k s))
