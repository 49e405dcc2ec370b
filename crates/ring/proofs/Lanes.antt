-- SPDX-License-Identifier: ISC
-- Messages of a digest's length in lanes, signed by one block after each masked block of the key.
use Rattle.std.proofs.lemmas.Grind.{common_steps}
use Rattle.std.proofs.Common.{◌≡◌, ℕ, ◌*◌, ◌/◌, ◌≤◌, List, ◌++◌, length, take, drop, ap, ◌∙◌, arith}
use Rattle.std.proofs.Common.{length-take-le, take_all, zero-mul, [], append-nil}
use Rattle.std.proofs.Math.Nat.{div_self, mod_self}
use Rattle.ring.specs.Prelude.{Algorithm, IsKeyInLane, IsWhole}
use Rattle.ring.specs.Prelude.{block_function, block_len, blocks_from, digest_bytes, digest_of}
use Rattle.ring.specs.Prelude.{hmac_of, inner_block, output_len, padded, prepared_padding}
use Rattle.ring.specs.Prelude.{initial_words, tail_of, word_bytes, word_count, word_len}
use Rattle.ring.specs.Prelude.{words_after}
use Rattle.ring_core.proofs.ChunkFolds.{fold_chunks-next, fold_chunks-none}
use Rattle.ring.proofs.lemmas.digest.Blocks.{blocks_from-then, words_after-append}
use Rattle.ring.proofs.lemmas.hmac.Keys.{length-inner_block, length-outer_block, one_block}
use Rattle.ring.proofs.Lengths.{length-words_after}
use Rattle.ring.proofs.lemmas.digest.Outputs.{length-bytes_high_first, length-word_bytes}
use Rattle.ring.proofs.Rows.{block_len-positive, eight_words, output_below}
use Rattle.ring.proofs.lemmas.digest.Finishing.{front-word_bytes}
use Rattle.ring.proofs.lemmas.digest.Tails.{padded-append}

-- a digest and its padding are one block long
length-padded : (a : Algorithm) (m : List ℕ) → length m ≡ output_len a
    → length (m ++ prepared_padding a) ≡ block_len a
length-padded a m lm =
    grind (arith, common_steps, one_block, length-bytes_high_first, output_below)

-- after a block p, they end the padded message
padded-message : (a : Algorithm) (p m : List ℕ) → length p ≡ block_len a → length m ≡ output_len a
    → p ++ (m ++ prepared_padding a) ≡ padded a (p ++ m)
padded-message a p m lp lm =
    grind (arith, common_steps, mod_self, padded-append)

-- one block is chained by one run
pub one_chained : (a : Algorithm) (h x : List ℕ) → length x ≡ block_len a
    → blocks_from a h x ≡ block_function a h x
one_chained a h x lx =
    let b : ℕ = block_len a in
    let step = block_function a in
    let one : length x / b ≡ 1 = rw lx (div_self (block_len-positive a)) in
    let front : take b (drop (0 * b) x) ≡ x = rw (zero-mul b) (take_all b x (omega (arith, lx))) in
    cc (one, front, fold_chunks-next step b h x 0, fold_chunks-none step b h x)

-- the words after all blocks of a padded message write its digest
pub ended-digest : (a : Algorithm) (m ws : List ℕ)
    → take (word_count a) ws ≡ words_after a (padded a m) → digest_bytes a ws ≡ digest_of a m
unfolding digest_of
ended-digest a m ws ends =
    let count = ap length ends ∙ length-words_after a (padded a m) in
    cc (ends, front-word_bytes a ws [] count, append-nil (word_bytes (word_len a) ws))

-- the blocks of the padding and of the bytes x before it are the last of the padded message
pub words_after-end : (a : Algorithm) (p x : List ℕ) (n : ℕ) → IsWhole a p
    → length (p ++ x) ≡ n
    → blocks_from a (words_after a p) (tail_of a x n) ≡ words_after a (padded a (p ++ x))
unfolding words_after
words_after-end a p x n whole long =
    let tail : List ℕ = tail_of a x (length (p ++ x)) in
    cc (long, padded-append a p x whole, blocks_from-then a (initial_words a) p tail whole)

-- the words after a digest's block write the digest
block-digest : (a : Algorithm) (p m ws : List ℕ) → length p ≡ block_len a
    → length m ≡ output_len a
    → take (word_count a) ws ≡ block_function a (words_after a p) (m ++ prepared_padding a)
    → digest_bytes a ws ≡ digest_of a (p ++ m)
block-digest a p m ws lp lm ew =
    let x : List ℕ = m ++ prepared_padding a in
    let lx : length x ≡ block_len a = length-padded a m lm in
    let whole : IsWhole a p = rw lp (mod_self (block_len a)) in
    let ends : take (word_count a) ws ≡ words_after a (padded a (p ++ m)) =
    cc (
      ew,
      one_chained a (words_after a p) x lx,
      words_after-append a p x whole,
      padded-message a p m lp lm,
    ) in
    ended-digest a (p ++ m) ws ends

-- a digest has its length
length-digest_bytes : (a : Algorithm) (ws : List ℕ) → output_len a ≤ word_len a * length ws
    → length (digest_bytes a ws) ≡ output_len a
length-digest_bytes a ws room =
    grind (arith, common_steps, length-take-le, length-word_bytes)

-- the words in a lane after a run over a digest and its padding write the digest inside
pub signed-inside : {a : Algorithm} {inner outer : List ℕ} (old new k : List ℕ)
    → take (word_count a) new
    ≡ block_function a (take (word_count a) inner) (digest_bytes a old ++ prepared_padding a)
    → length old ≡ 8 → IsKeyInLane a inner outer k
    → digest_bytes a new ≡ digest_of a (inner_block a k ++ digest_bytes a old)
signed-inside {a} {inner} {outer} old new k run eight stands =
    grind (
      arith,
      common_steps,
      block-digest,
      eight_words,
      length-digest_bytes,
      length-inner_block,
    )

-- and after a run over the digest inside of a message, its tag
pub signed-outside : {a : Algorithm} {inner outer : List ℕ} (old new k m : List ℕ)
    → take (word_count a) new
    ≡ block_function a (take (word_count a) outer) (digest_bytes a old ++ prepared_padding a)
    → length old ≡ 8 → IsKeyInLane a inner outer k
    → digest_bytes a old ≡ digest_of a (inner_block a k ++ m)
    → digest_bytes a new ≡ hmac_of a k m
unfolding hmac_of
signed-outside {a} {inner} {outer} old new k m run eight stands inside =
    grind (
      arith,
      common_steps,
      block-digest,
      eight_words,
      length-digest_bytes,
      length-outer_block,
    )
