-- SPDX-License-Identifier: ISC
-- Items at the places of lists.
use Rattle.std.specs.Prelude.{ℕ, ◌<◌, List, length}
use Rattle.std.specs.List.{slice_index_or}

-- P holds of each place of the list and the item there
abbrev pub EachItem : {X : Type 0} → List X → (ℕ → X → Type 0) → Type 0
EachItem {X} xs P = (i : ℕ) (x : X) → i < length xs → P i (slice_index_or xs i x)

-- P holds of each place of the list `old`, the item there and that of the list `new`
abbrev pub EachChange : {X : Type 0} → (old new : List X) → (ℕ → X → X → Type 0) → Type 0
EachChange {X} old new P =
    (i : ℕ) (x : X) → i < length old → P i (slice_index_or old i x) (slice_index_or new i x)
