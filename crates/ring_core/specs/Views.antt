-- SPDX-License-Identifier: ISC
-- What a view of a slice as chunks shows.
use Rattle.std.specs.Prelude.{ℕ, List, length}
use Rattle.ring_core.specs.declared.polyfill.slice.view.AsChunks.{AsChunks}
use Rattle.ring_core.specs.declared.polyfill.slice.view.AsChunksIter.{AsChunksIter}
use Rattle.ring_core.specs.Chunks.{chunk_count}

module _ {T : Type 0} {n : ℕ} where
  -- the items of all chunks, one chunk after the other
  abbrev pub chunk_items : AsChunks T n → List T
  chunk_items view = view.items.now

  -- how many chunks there are
  abbrev pub chunk_total : AsChunks T n → ℕ
  chunk_total view = chunk_count n (length view.items.now)

  -- the items of the chunks that a walk has left
  abbrev pub items_left : AsChunksIter T n → List T
  items_left walk = walk.rest.now

  -- how many chunks these are
  abbrev pub chunks_left : AsChunksIter T n → ℕ
  chunks_left walk = chunk_count n (length walk.rest.now)
