-- SPDX-License-Identifier: ISC
-- Digests (FIPS 180-4, sections 6.1 to 6.7).
use Rattle.std.specs.Prelude.{◌≡◌, ℕ, ◌/◌, List, length, take}
use Rattle.ring_core.specs.Chunks.{fold_chunks}
use Rattle.ring.specs.Algorithm.{block_function, block_len, initial_words, output_len, word_len}
use Rattle.ring.specs.Padding.{padded, tail_of}
use Rattle.ring.specs.State.{word_bytes}
use Rattle.ring.specs.declared.digest.algorithm.Algorithm.{Algorithm}
use Rattle.ring.specs.declared.digest.block_context.Digest.{Digest}

-- the words after the whole blocks of p, from the words h: one block function a block
abbrev pub blocks_from : Algorithm → (h p : List ℕ) → List ℕ
blocks_from a h p = fold_chunks (block_function a) (block_len a) h p (length p / block_len a)

-- the chaining words after the whole blocks p: H(0) after none
unfoldable pub words_after : Algorithm → List ℕ → List ℕ
words_after a p = blocks_from a (initial_words a) p

-- the digest of the message m: the first bytes of the last chaining words
unfoldable pub digest_of : Algorithm → List ℕ → List ℕ
digest_of a m = take (output_len a) (word_bytes (word_len a) (words_after a (padded a m)))

-- the digest of a message of n bytes that ends in the bytes x, where h are the words after the
-- blocks before x
unfoldable pub digest_after : Algorithm → (h x : List ℕ) → ℕ → List ℕ
digest_after a h x n =
    take (output_len a) (word_bytes (word_len a) (blocks_from a h (tail_of a x n)))

-- the algorithm that made a digest
abbrev pub digest_algorithm : Digest → Algorithm
digest_algorithm d = d.algorithm

-- the bytes that a digest gives
abbrev pub bytes_of : Digest → List ℕ
bytes_of d = take (output_len d.algorithm) d.value.0

-- the digest is that of the message m under the algorithm a
pub record IsDigest (d : Digest) (a : Algorithm) (m : List ℕ) : Type 0 where
  pub algorithm : digest_algorithm d ≡ a
  pub bytes : bytes_of d ≡ digest_of a m
