-- SPDX-License-Identifier: ISC
-- The blocks of a padded message.
use Rattle.std.proofs.lemmas.Grind.{common_steps}
use Rattle.std.proofs.Common.{◌≡◌, ℕ, ◌+◌, ◌-◌, ◌*◌, ◌/◌, ◌%◌, ◌<◌, ◌≤◌, List, ◌∷◌, ◌++◌, length}
use Rattle.std.proofs.Common.{take, drop, replicate, refl, sym, ap, ◌∙◌, arith, append_assoc}
use Rattle.std.proofs.Common.{length-drop}
use Rattle.std.proofs.lemmas.List.{drop_all, drop_at, drop-drop, length-take-le, take-append-drop}
use Rattle.std.proofs.lemmas.List.{take_all, take_rest}
use Rattle.std.specs.Int.{bytes_high_first}
use Rattle.ring_core.specs.Prelude.{chunk_at, fold_chunks}
use Rattle.ring.specs.Prelude.{Algorithm, HasWords, IsWhole, block_function, block_len, blocks_from}
use Rattle.ring.specs.Prelude.{initial_words, length_len, padded, padded_blocks, tail_of}
use Rattle.ring.specs.Prelude.{whole_blocks, word_count, word_len, words_after, words_at, zeros_of}
use Rattle.ring_core.specs.Sha2 as sha2
use Rattle.ring_core.proofs.ChunkFolds.{fold_chunks-append, fold_chunks-next, fold_chunks-then}
use Rattle.ring_core.proofs.Sha2Steps as sha2_steps
use Rattle.ring.proofs.lemmas.digest.Blocks.{mul_whole}
use Rattle.ring.proofs.lemmas.digest.Padding.{length-padded}
use Rattle.ring.proofs.Rows.{block_len-positive, by_sizes}
use Rattle.ring.proofs.lemmas.digest.Runs.{long_row}
use Rattle.ring.proofs.lemmas.digest.Tails.{padded-append}

-- what holds of both sizes of blocks
by_size : (P : ℕ → Type 0) (a : Algorithm) {n : ℕ} → block_len a ≡ n → P 64 → P 128 → P n
by_size P a e short long = rw (← e) (by_sizes (λ b l. P b) a short long)

-- one block more
pub words_at-next : {n : ℕ} (a : Algorithm) (m block : List ℕ) (k : ℕ) → block_len a ≡ n
    → block ≡ chunk_at n (padded a m) k
    → words_at a m (k + 1) ≡ block_function a (words_at a m k) block
unfolding words_at
words_at-next a m block k e is =
    grind (arith, common_steps, fold_chunks-next)

-- all blocks
pub words_at-all : (a : Algorithm) (m : List ℕ)
    → words_at a m (padded_blocks a (length m)) ≡ words_after a (padded a m)
unfolding words_at words_after
words_at-all a m =
    grind (arith, common_steps, length-padded, mul_whole, block_len-positive)

-- what is added to a message
abbrev padding_of : Algorithm → List ℕ → List ℕ
padding_of a m =
    0x80 ∷ replicate (zeros_of a (length m)) 0 ++ bytes_high_first (length_len a) (8 * length m)

padded-split : (a : Algorithm) (m : List ℕ) → padded a m ≡ m ++ padding_of a m
unfolding padded
padded-split a m = simp append_assoc

-- a block that is whole in the message
pub chunk_whole : {n : ℕ} (a : Algorithm) (m : List ℕ) (k : ℕ) → block_len a ≡ n
    → k < length m / n → chunk_at n (padded a m) k ≡ take n (drop (n * k) m)
chunk_whole {n} a m k e below =
    grind (arith, common_steps, by_size, padded-split)

-- the words after blocks that are whole in the message
words_at-front : {n : ℕ} (a : Algorithm) (m : List ℕ) (k : ℕ) → block_len a ≡ n
    → n * k ≤ length m
    → words_at a m k ≡ fold_chunks (block_function a) n (initial_words a) m k
unfolding words_at
words_at-front {n} a m k e fits =
    grind (arith, common_steps, padded-split, fold_chunks-append)

-- the k blocks at the front of x bytes, and the whole blocks past them
pub record AreParted (n k x : ℕ) : Type 0 where
  pub front : n * k ≤ x
  pub last : n * (x / n) ≤ x
  pub sum : k + (x - n * k) / n ≡ x / n

pub parted : {n : ℕ} (a : Algorithm) (k x : ℕ) → block_len a ≡ n → k ≤ x / n → AreParted n k x
parted a k x e h =
    grind (arith, common_steps, by_size)

-- the blocks past those
pub blocks_left : {n : ℕ} {rest : List ℕ} (a : Algorithm) (m : List ℕ) (k : ℕ) → block_len a ≡ n
    → k ≤ length m / n → rest ≡ drop (n * k) m
    → whole_blocks a (length rest) ≡ length m / n - k
blocks_left {n} {rest} a m k e fits er =
    let long : length rest ≡ length m - n * k = ap length er ∙ length-drop (n * k) m in
    rw (e, long) (omega (arith, (parted a k (length m) e fits).sum))

-- and the words after all that are whole in the message, from those after k blocks
pub words_at-whole : {n : ℕ} {old new rest : List ℕ} (a : Algorithm) (m : List ℕ) (k : ℕ)
    → block_len a ≡ n → k ≤ length m / n → rest ≡ drop (n * k) m → old ≡ words_at a m k
    → new ≡ blocks_from a old rest → new ≡ words_at a m (length m / n)
words_at-whole {n} {old} {rest = rest} a m k e fits er is run =
    let step = block_function a in
    let h = initial_words a in
    let p : List ℕ = take (n * k) m in
    let parts = parted a k (length m) e fits in
    let lp : length p ≡ k * n = length-take-le (n * k) m parts.front ∙ grind arith in
    let lr : length rest ≡ length m - n * k = ap length er ∙ length-drop (n * k) m in
    let joined : p ++ rest ≡ m = ap (λ z. p ++ z) er ∙ take-append-drop (n * k) m in
    let sum : k + length rest / n ≡ length m / n = rw lr parts.sum in
    cc (
      run,
      is,
      e,
      joined,
      sum,
      words_at-front a m k e parts.front,
      fold_chunks-append step n h p rest k (omega (arith, lp)),
      fold_chunks-then step n h p rest k (length rest / n) lp,
      words_at-front a m (length m / n) e parts.last,
    )

-- the bytes of w whole blocks, and those up to block k
record AreAt (n w k : ℕ) : Type 0 where
  whole : (n * w) % n ≡ 0
  at : k * n ≡ n * w + n * (k - w)

-- a block past those that are whole in the message
pub chunk_tail : {n w : ℕ} {x : List ℕ} (a : Algorithm) (m : List ℕ) (k : ℕ) → block_len a ≡ n
    → w ≡ length m / n → w ≤ k → x ≡ drop (n * w) m
    → chunk_at n (padded a m) k ≡ take n (drop (n * (k - w)) (tail_of a x (length m)))
chunk_tail {n} {w} {x} a m k e ew past ex =
    let p : List ℕ = take (n * w) m in
    let t : List ℕ = tail_of a x (length m) in
    let places : AreAt n w k = by_size (λ n. AreAt n w k) a e
    (record { whole = omega arith; at = omega (arith, past) })
    (record { whole = omega arith; at = omega (arith, past) }) in
    let front : w ≤ length m / n = omega arith in
    let lp : length p ≡ n * w = length-take-le (n * w) m (parted a w (length m) e front).front in
    let whole : IsWhole a p = rw (e, lp) places.whole in
    let joined : p ++ x ≡ m = ap (λ z. p ++ z) ex ∙ take-append-drop (n * w) m in
    let split : padded a m ≡ p ++ t = cc (joined, padded-append a p x whole) in
    rw (split, places.at, ← drop-drop (n * (k - w)) (n * w) (p ++ t), drop_at p t (n * w) lp) refl

-- the words of a lane after a block of SHA-2
pub lane-sha2 : {h old new : List ℕ} (a : Algorithm) (f : sha2.Family) (block : List ℕ)
    → word_count a ≡ 8 → HasWords a h old → new ≡ sha2.block_step f old block
    → HasWords a (sha2.block_step f h block) new
lane-sha2 {h} {old} {new} a f block eight has words =
    let all : old ≡ h =
    sym (take_all (word_count a) old (omega (arith, eight, has.count))) ∙ has.chaining in
    let long : length new ≡ 8 = ap length words ∙ sha2_steps.length-block_step f old block in
    record {
      chaining = cc (take_all (word_count a) new (omega (arith, eight, long)), words, all);
      count = long;
    }

-- the algorithms of 64-bit words have one block function, of which eight words chain
pub lane-long : {h old new : List ℕ} (a : Algorithm) (block : List ℕ) → word_len a ≡ 8
    → HasWords a h old → new ≡ sha2.block_step sha2.family_512 old block
    → HasWords a (block_function a h block) new
lane-long {h} {old} {new} a block is has words =
    let row = long_row a.id (sym is) in
    rw row.step_is (lane-sha2 a sha2.family_512 block row.count_is has words)

-- where eight words chain, none is spare
pub spare-none : {h k old new : List ℕ} (a : Algorithm) → word_count a ≡ 8 → HasWords a h old
    → HasWords a k new → drop (word_count a) new ≡ drop (word_count a) old
spare-none {old = old} {new = new} a eight before after =
    drop_all (word_count a) new (omega (arith, eight, after.count))
    ∙ sym (drop_all (word_count a) old (omega (arith, eight, before.count)))

pub spare-long : {h k old new : List ℕ} (a : Algorithm) → word_len a ≡ 8 → HasWords a h old
    → HasWords a k new → drop (word_count a) new ≡ drop (word_count a) old
spare-long a is before after = spare-none a (long_row a.id (sym is)).count_is before after

-- the words of a lane after one chunk more
pub chunks-next : {block ws : List ℕ} (a : Algorithm) (n : ℕ) (h m : List ℕ) (k : ℕ)
    → block ≡ chunk_at n m k
    → HasWords a (block_function a (fold_chunks (block_function a) n h m k) block) ws
    → HasWords a (fold_chunks (block_function a) n h m (k + 1)) ws
chunks-next a n h m k is has =
    grind (arith, common_steps, fold_chunks-next)

pub ruleset lane_rules = (common_steps, blocks_left, chunk_tail, take_rest)
