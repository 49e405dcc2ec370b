-- SPDX-License-Identifier: ISC
use Rattle.std.proofs.Common.{ℕ, List, take}
use Rattle.std.specs.List.{All}
use Rattle.ring_sums.specs.Entry.{HasTaggedForm, tag_of}
use Rattle.ring_sums.proofs.entry.tagged_among.Given as goal

-- the line has the tag of none of the first ones
abbrev pub invariant-loop-algorithm : goal.invariant-loop-algorithm
invariant-loop-algorithm l =
    All (λ a. (name digits : List ℕ) → HasTaggedForm l.line (tag_of a) name digits → ⊥)
    (take l.algorithm-index l.algorithms)
