-- SPDX-License-Identifier: ISC
-- How a key is made one block, and what keys and tags cost.
use Rattle.std.proofs.lemmas.Grind.{common_steps}
use Rattle.std.proofs.Common.{◌≡◌, ℕ, ◌+◌, ◌-◌, ◌<◌, ◌≤◌, List, [], ◌++◌, length, take, replicate}
use Rattle.std.proofs.Common.{refl, sym, ap, subst, ◌∙◌, arith, append_assoc}
use Rattle.std.proofs.lemmas.List.{take_at, replicate-append-replicate}
use Rattle.ring.specs.Prelude.{Algorithm, BlockContext, Counts, Digest, HasRunBlocks, HasTaken}
use Rattle.ring.specs.Prelude.{IsDigest, IsTag, Tag, block_len, bytes_of, counted_bytes, digest_of}
use Rattle.ring.specs.Prelude.{hmac_of, inner_block, key_block, key_digest_blocks, last_blocks}
use Rattle.ring.specs.Prelude.{outer_block, output_len, padded_blocks, raised, short_key, IsWhole}
use Rattle.ring.specs.Prelude.{Key, KeyStandsFor, block_words, key_algorithm}
use Rattle.ring.specs.Prelude.{tag_from, tag_of_inner, tag_under, words_after}
use Rattle.std.proofs.Math.Nat.{div-eq_of_lt}
use Rattle.ring.proofs.lemmas.digest.Finishing.{digest_of-after}
use Rattle.ring.proofs.Lengths.{last_past, length-digest_of}
use Rattle.ring.proofs.Rows.{block_len-most, output_below}
use Rattle.ring.proofs.lemmas.digest.Updating.{moved_block}
use Rattle.ring_core.proofs.Costs.{raised-none, raised-raised}

-- a digest and its padding are one block
pub one_block : (a : Algorithm) → padded_blocks a (output_len a) ≡ 1
one_block a = grind (arith, common_steps, div-eq_of_lt, output_below)

pub short_key-short : (a : Algorithm) (k : List ℕ) → length k ≤ block_len a → short_key a k ≡ k
unfolding short_key
short_key-short a k h =
    grind (arith, common_steps)

pub short_key-long : (a : Algorithm) (k : List ℕ) → block_len a < length k
    → short_key a k ≡ digest_of a k
unfolding short_key
short_key-long a k h =
    grind (arith, common_steps)

-- one block y taken in by a new block context of the algorithm a
pub taken_block : {b n : BlockContext} {a : Algorithm} {x y left : List ℕ} {m0 m1 : Counts}
    → HasRunBlocks (block_len b.algorithm) b n x left m0 m1 → length left < block_len b.algorithm
    → b.algorithm ≡ a → length x ≡ block_len a → x ≡ y → HasTaken b [] → counted_bytes b ≡ 0
    → HasTaken n y × (counted_bytes n ≡ block_len a) × (m1 ≡ raised m0 1 0)
taken_block {n = n} {a = a} {m0 = m0} j short ea lx e h none =
    let same = ap block_len ea in
    let moved = moved_block j short (lx ∙ sym same) in
    let P : List ℕ → Type 0 = HasTaken n in
    let counted : counted_bytes n ≡ block_len a =
    omega (arith, j.counted, ap length moved.1, lx, none, same, block_len-most a) in
    (subst P (moved.1 ∙ e) (j.taken [] h), counted, j.cost ∙ ap (λ (z : ℕ). raised m0 z 0) moved.0)

-- the front of a short key with zeros after it
key_block-is : (a : Algorithm) (k s : List ℕ) → short_key a k ≡ s → length s ≤ block_len a
    → take (block_len a) (s ++ replicate (128 - length s) 0) ≡ key_block a k
unfolding key_block
key_block-is a k s es fits =
    let b : ℕ = block_len a in
    let most : b ≤ 128 = block_len-most a in
    let sum : 128 - length s ≡ b - length s + (128 - b) = omega arith in
    let inside : List ℕ = replicate (b - length s) 0 in
    let zeros = replicate-append-replicate {A = ℕ} (b - length s) (128 - b) 0 in
    let size : length (s ++ inside) ≡ b = grind (arith, common_steps) in
    rw (sum, ← zeros, ← append_assoc)
    (take_at (s ++ inside) (replicate (128 - b) 0) b size ∙ rw es refl)

-- a key that is no longer than a block
pub key_block-short : (a : Algorithm) (k block : List ℕ) → length k ≤ block_len a
    → block ≡ k ++ replicate (128 - length k) 0 → take (block_len a) block ≡ key_block a k
key_block-short a k block h e = grind (arith, common_steps, key_block-is, short_key-short)

-- a longer key: the bytes s are those of its digest
pub key_block-long : (a : Algorithm) (k s block : List ℕ) → block_len a < length k
    → s ≡ digest_of a k → block ≡ s ++ replicate (128 - length s) 0
    → take (block_len a) block ≡ key_block a k
key_block-long a k s block h es e =
    grind (arith, common_steps, length-digest_of, output_below, key_block-is, short_key-long)

-- a key's block has the block's length
pub length-key_block : (a : Algorithm) (k : List ℕ) → length (short_key a k) ≤ block_len a
    → length (key_block a k) ≡ block_len a
unfolding key_block
length-key_block a k fits =
    grind (arith, common_steps)

pub length-short_key : (a : Algorithm) (k : List ℕ) → length (short_key a k) ≤ block_len a
unfolding short_key
length-short_key a k = grind (arith, common_steps, length-digest_of, output_below)

pub length-inner_block : (a : Algorithm) (k : List ℕ) → length (inner_block a k) ≡ block_len a
length-inner_block a k = grind (arith, common_steps, length-key_block, length-short_key)

pub length-outer_block : (a : Algorithm) (k : List ℕ) → length (outer_block a k) ≡ block_len a
length-outer_block a k = grind (arith, common_steps, length-key_block, length-short_key)

-- the length of the message inside
pub inner_len : (a : Algorithm) (k m : List ℕ)
    → length (inner_block a k ++ m) ≡ block_len a + length m
inner_len a k m =
    grind (arith, common_steps, length-inner_block a k)

-- the end of the message inside is that of the message
pub inner_last : (a : Algorithm) (k m : List ℕ)
    → last_blocks a (length (inner_block a k ++ m)) ≡ last_blocks a (length m)
inner_last a k m = ap (last_blocks a) (inner_len a k m) ∙ last_past a (length m)

-- the digest outside of the digest inside is the tag
pub tag_is : {t : Tag} {v d : Digest} {a : Algorithm} (k m : List ℕ) {x : List ℕ} → t.0 ≡ v
    → IsDigest v a (outer_block a k ++ x) → x ≡ bytes_of d → IsDigest d a (inner_block a k ++ m)
    → IsTag t a k m
unfolding hmac_of
tag_is {a = a} k m e hv ex hd =
    grind (arith, common_steps)

-- the tag of an inner digest, by the words after the key's outer block
pub tag_of_inner-is : (a : Algorithm) {outer d : List ℕ} (k m : List ℕ)
    → IsWhole a (outer_block a k) → outer ≡ words_after a (outer_block a k)
    → d ≡ digest_of a (inner_block a k ++ m) → tag_of_inner a outer d ≡ hmac_of a k m
unfolding hmac_of
tag_of_inner-is a k m whole words is =
    grind (arith, common_steps, length-outer_block, length-digest_of, digest_of-after)

-- the tag under a key's states is that under the key
pub tag_from-is : (a : Algorithm) {inner outer : List ℕ} (k m : List ℕ)
    → IsWhole a (inner_block a k) → inner ≡ words_after a (inner_block a k)
    → IsWhole a (outer_block a k) → outer ≡ words_after a (outer_block a k)
    → tag_from a inner outer m ≡ hmac_of a k m
tag_from-is a k m wi ei wo eo =
    tag_of_inner-is a k m wo eo
    (rw ei (digest_of-after a (inner_block a k) m _ wi (inner_len a k m)))

-- the words after an outer block, of a block context of the same algorithm
pub outer_taken : (b : BlockContext) (a : Algorithm) (p : List ℕ) → b.algorithm ≡ a → HasTaken b p
    → IsWhole a p × (block_words b ≡ words_after a p)
outer_taken b a p same h = grind (arith, common_steps)

-- the tag under a key that stands for bytes
pub tag_under-is : (key : Key) (k m : List ℕ) → KeyStandsFor key k
    → tag_under key m ≡ hmac_of (key_algorithm key) k m
tag_under-is key k m h =
    let outer = outer_taken key.outer (key_algorithm key) _ key.same h.outer in
    tag_from-is (key_algorithm key) k m h.inner.whole h.inner.words outer.0 outer.1

-- the blocks of a key's digest
pub key_digest_blocks-short : (a : Algorithm) (n : ℕ) → n ≤ block_len a → key_digest_blocks a n ≡ 0
key_digest_blocks-short a n h =
    grind (arith, common_steps)

-- a tag has the output's length
pub length-hmac_of : (a : Algorithm) (k m : List ℕ) → length (hmac_of a k m) ≡ output_len a
unfolding hmac_of
length-hmac_of a k m = length-digest_of a _

pub ruleset key_rules = (
  common_steps,
  inner_last,
  key_block-long,
  key_block-short,
  key_digest_blocks-short,
  output_below,
  raised-none,
  raised-raised,
)
