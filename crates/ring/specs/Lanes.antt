-- SPDX-License-Identifier: ISC
-- Digests and keys as the words of states.
use Rattle.std.specs.Prelude.{◌≡◌, ◌⊎◌, ℕ, ◌*◌, ◌≤◌, List, take}
use Rattle.ring_core.specs.Sha2.{Family, block_step}
use Rattle.ring.specs.Algorithm.{block_function, output_len, word_count, word_len}
use Rattle.ring.specs.Digest.{words_after}
use Rattle.ring.specs.KeyBlocks.{inner_block, outer_block}
use Rattle.ring.specs.State.{word_bytes}
use Rattle.ring.specs.declared.digest.algorithm.Algorithm.{Algorithm}

-- the digest that a state's words write
abbrev pub digest_bytes : Algorithm → List ℕ → List ℕ
digest_bytes a ws = take (output_len a) (word_bytes (word_len a) ws)

-- so many messages or rounds can run side by side over vectors of so many bits: one alone, four
-- whose words fit in a vector, or eight of 32-bit words
abbrev pub CanRunTogether : (bits : ℕ) → Algorithm → ℕ → Type 0
CanRunTogether bits a n =
    (n ≡ 1) ⊎ ((n ≡ 4) × (4 * (8 * word_len a) ≤ bits))
    ⊎ ((n ≡ 8) × (word_len a ≡ 4) × (8 * 32 ≤ bits))

-- the block function is SHA-2's of the family f, whose eight words all chain and have n bytes each
pub record IsSha2 (a : Algorithm) (f : Family) (n : ℕ) : Type 0 where
  pub function : block_function a ≡ block_step f
  pub eight : word_count a ≡ 8
  pub sized : word_len a ≡ n

-- the words of two states are those after the masked blocks of the key k (RFC 2104, section 2)
pub record IsKeyInLane (a : Algorithm) (inner outer k : List ℕ) : Type 0 where
  pub inside : take (word_count a) inner ≡ words_after a (inner_block a k)
  pub outside : take (word_count a) outer ≡ words_after a (outer_block a k)
