-- SPDX-License-Identifier: ISC
-- What the kernels of one message give and count, which stands here once for all of a family.
use Rattle.std.specs.Prelude.{◌≡◌, ℕ, ◌<◌, List, ◌++◌, drop, map, slice_index, take}
use Rattle.std.specs.declared.num.Wrapping.{Wrapping}
use Rattle.ring_core.specs.Chunks.{fold_chunks}
use Rattle.ring_core.specs.Cost.{Counts, raised}
use Rattle.ring_core.specs.Sha1.{block_step, blocks_from}
use Rattle.ring_core.specs.Sha2 as sha2
use Rattle.ring_core.specs.Sha2.{Family, block_len}
use Rattle.ring_core.specs.Word.{word_32, word_at}

-- the words of the block, each of w bits, are the first n of front and those of padding past them
-- (5.2)
pub record IsBlockOf (w n : ℕ) (front padding block : List ℕ) : Type 0 where
  pub word : (t : ℕ) → t < 16
      → slice_index (take n front ++ drop n padding) t ≡ word_at w block t

-- the words new are what step makes of old and the first n blocks of a message, of len bytes each,
-- and these blocks are counted
pub record RunsBlocks (step : List ℕ → List ℕ → List ℕ) (len : ℕ) (old new message : List ℕ) (n : ℕ)
    (before after : Counts) : Type 0 where
  pub words : new ≡ fold_chunks step len old message n
  pub cost : after ≡ raised before n 0

-- SHA-2's block function is run over the first n blocks of a message, and these are counted (6.2.2,
-- 6.4.2)
abbrev pub RunsSha2 : Family → (old new message : List ℕ) → ℕ → (before after : Counts) → Type 0
RunsSha2 f old new message n before after =
    RunsBlocks (sha2.block_step f) (block_len f) old new message n before after

-- SHA-2's block function is run over a block that is given as words, of which the first n are those
-- of front, and it is counted (6.2.2, 6.4.2)
pub record RunsSha2Words (f : Family) (n : ℕ) (old new front padding : List ℕ)
    (before after : Counts) : Type 0 where
  pub words : (b : List ℕ) → IsBlockOf f.bits n front padding b → new ≡ sha2.block_step f old b
  pub cost : after ≡ raised before 1 0

-- SHA-1's block function is run over the first n blocks of a message, and these are counted (6.1.2)
pub record RunsSha1 (old new : List (Wrapping ℕ)) (message : List ℕ) (n : ℕ)
    (before after : Counts) : Type 0 where
  pub words : take 5 (map word_32 new) ≡ blocks_from (take 5 (map word_32 old)) message n
  pub rest : drop 5 new ≡ drop 5 old
  pub cost : after ≡ raised before n 0

-- SHA-1's block function is run over a block that is given as words, and it is counted (6.1.2)
pub record RunsSha1Words (old new front padding : List (Wrapping ℕ)) (before after : Counts)
    : Type 0 where
  pub words : (b : List ℕ) → IsBlockOf 32 5 (map word_32 front) (map word_32 padding) b
      → take 5 (map word_32 new) ≡ block_step (take 5 (map word_32 old)) b
  pub rest : drop 5 new ≡ drop 5 old
  pub cost : after ≡ raised before 1 0
