-- SPDX-License-Identifier: ISC
-- The length of a digest, and costs of whole messages.
use Rattle.std.proofs.lemmas.Grind.{common_steps}
use Rattle.std.proofs.Common.{◌≡◌, ℕ, ◌+◌, ◌/◌, ◌%◌, List, length, arith}
use Rattle.ring.specs.Prelude.{Algorithm, AlgorithmId, Counts, block_len, digest_of}
use Rattle.ring.specs.Prelude.{last_blocks, output_len, padded_blocks, raised}
use Rattle.ring.specs.Prelude.{row_of, whole_blocks, word_count, words_after}
use Rattle.ring_core.proofs.Costs.{raised-none, raised-raised}
use Rattle.ring_core.proofs.ChunkFolds.{length-fold_chunks}
use Rattle.ring.proofs.lemmas.digest.Outputs.{length-word_bytes}
use Rattle.ring.proofs.Rows.{facts_of_id, output_len-most, sizes_of}

keeps_count : (i : AlgorithmId) (x y : List ℕ)
    → length ((row_of i).block_function x y) ≡ (row_of i).chaining_len / (row_of i).word_len
keeps_count i = (facts_of_id i).keeps

initial_count : (i : AlgorithmId)
    → length (row_of i).first_words ≡ (row_of i).chaining_len / (row_of i).word_len
initial_count i = (facts_of_id i).first

-- the words after blocks are as many as the algorithm has
pub length-words_after : (a : Algorithm) (p : List ℕ) → length (words_after a p) ≡ word_count a
unfolding words_after
length-words_after a p =
    grind (arith, common_steps, keeps_count, length-fold_chunks, initial_count)

-- a digest has the output's length
pub length-digest_of : (a : Algorithm) (m : List ℕ) → length (digest_of a m) ≡ output_len a
unfolding digest_of
length-digest_of a m =
    grind (arith, common_steps, length-word_bytes, length-words_after, output_len-most)

-- the end of a message has the blocks of its pending bytes with their padding
pub end_last : (a : Algorithm) (n : ℕ) → padded_blocks a (n % block_len a) ≡ last_blocks a n
end_last a n =
    grind (arith, common_steps, sizes_of)

-- the blocks of a message and those of its end
pub whole_last : (a : Algorithm) (n : ℕ) → whole_blocks a n + last_blocks a n ≡ padded_blocks a n
whole_last a n =
    grind (arith, common_steps, sizes_of)

-- a block before the message leaves its end as it is
pub last_past : (a : Algorithm) (n : ℕ) → last_blocks a (block_len a + n) ≡ last_blocks a n
last_past a n =
    grind (arith, common_steps, sizes_of)

-- n bytes were taken in: q of them are pending, and the meter rose by their whole blocks
pub record HasCounted (a : Algorithm) (q n : ℕ) (before now : Counts) : Type 0 where
  pub pending : q ≡ n % block_len a
  pub cost : now ≡ raised before (whole_blocks a n) 0

-- no byte makes no block, and leaves none pending
pub counted_none : (a : Algorithm) {q : ℕ} {m : Counts} → q ≡ 0 → HasCounted a q 0 m m
counted_none a {m = m} e = grind (arith, common_steps, sizes_of, raised-none m)

-- a context of the algorithm a, which it tells as b, before and after it takes in more bytes
module _ {a b : Algorithm} {q n : ℕ} {m0 m1 m2 : Counts} where
  -- d bytes more
  pub counted_more : {p : ℕ} (d : ℕ) → b ≡ a → HasCounted a p n m0 m1 → q ≡ (p + d) % block_len b
      → m2 ≡ raised m1 (whole_blocks b (p + d)) 0 → HasCounted a q (n + d) m0 m2
  counted_more d eb t eq em =
      grind (arith, common_steps, sizes_of a, t.pending, t.cost, raised-raised)

  -- the end of the message, and x blocks more
  counted_end_and : (x : ℕ) → b ≡ a → HasCounted a q n m0 m1
      → m2 ≡ raised m1 (padded_blocks b q + x) 0 → m2 ≡ raised m0 (padded_blocks a n + x) 0
  counted_end_and x eb t em =
      grind (arith, common_steps, end_last a n, whole_last a n, t.pending, t.cost, raised-raised)

  -- the end of a digest's message
  pub counted_end : b ≡ a → HasCounted a q n m0 m1 → m2 ≡ raised m1 (padded_blocks b q) 0
      → m2 ≡ raised m0 (padded_blocks a n) 0
  counted_end eb t em = grind (arith, common_steps, counted_end_and 0 eb t)

  -- the end of a tag's message, and the block of the digest outside
  pub counted_tag : b ≡ a → HasCounted a q n m0 m1 → m2 ≡ raised m1 (padded_blocks b q + 1) 0
      → m2 ≡ raised m0 (padded_blocks a n + 1) 0
  counted_tag = counted_end_and 1

-- the first n bytes, where p, which is none, were pending before them
pub counted_first : {a b : Algorithm} {p q : ℕ} {m0 m1 : Counts} (n : ℕ) → b ≡ a → p ≡ 0
    → q ≡ (p + n) % block_len b → m1 ≡ raised m0 (whole_blocks b (p + n)) 0
    → HasCounted a q n m0 m1
counted_first {a = a} n eb ep eq em =
    grind (arith, common_steps, counted_more, counted_none)

pub ruleset lengths = (length-words_after, length-digest_of)
