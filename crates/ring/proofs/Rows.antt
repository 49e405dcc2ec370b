-- SPDX-License-Identifier: ISC
-- What the rows have in common.
use Rattle.std.proofs.lemmas.Grind.{common_steps}
use Rattle.std.proofs.Common.{arith, ◌≡◌, ℕ, zero, ◌<◌, ◌≤◌, ◌-◌, ◌*◌, ◌^◌, ◌⊎◌, refl, inl, inr}
use Rattle.std.proofs.Common.{lit<, lit≤, ◌+◌, ◌/◌, List, length}
use Rattle.ring_core.specs.Sha1 as sha1
use Rattle.ring_core.specs.Sha2 as sha2
use Rattle.ring.specs.Prelude.{Algorithm, AlgorithmId, Row, Sha1, Sha256, block_len, length_len}
use Rattle.ring.specs.Prelude.{max_input_len, output_len, row_of, sha1_row, word_count, word_len}
use Rattle.ring.specs.Table.{row_by}

-- the two sizes of blocks, b bytes, and length fields, l bytes
abbrev pub AreSizes : (b l : ℕ) → Type 0
AreSizes b l = ((b ≡ 64) × (l ≡ 8)) ⊎ ((b ≡ 128) × (l ≡ 16))

-- what the proofs need of a row: one of the two sizes; some bytes of output, no more than its
-- chaining words have, than an output has room for and than eight words have; with a length field
-- less than a block; the limit; and as many words first and after a block as chain, at most eight
pub record AreFacts (r : Row) : Type 0 where
  pub sizes : AreSizes r.block_len r.length_len
  pub some : zero < r.output_len
  pub front : r.output_len ≤ r.word_len * (r.chaining_len / r.word_len)
  pub most : r.output_len ≤ 64
  pub eight : r.output_len ≤ r.word_len * 8
  pub below : r.output_len + r.length_len < r.block_len
  pub limit : r.max_input_len ≤ 2 ^ 125 - 1
  pub count : r.chaining_len / r.word_len ≤ 8
  pub first : length r.first_words ≡ r.chaining_len / r.word_len
  pub keeps : (x y : List ℕ) → length (r.block_function x y) ≡ r.chaining_len / r.word_len

sha1_facts : AreFacts sha1_row
unfolding sha1.block_step
sha1_facts = record {
  sizes = inl (refl, refl);
  some = lit< tt;
  front = lit≤ tt;
  most = lit≤ tt;
  eight = lit≤ tt;
  below = lit< tt;
  limit = lit≤ tt;
  count = lit≤ tt;
  first = refl;
  keeps = λ x y. refl;
}

-- a row of SHA-256's block function
short_facts : {name : List ℕ} {number len : ℕ} {words : List ℕ} → zero < len → len ≤ 32
    → length words ≡ 8
    → AreFacts (row_by name number 4 len 32 words (sha2.block_step sha2.family_256))
unfolding sha2.block_step
short_facts some most first = record {
  sizes = inl (refl, refl);
  some = some;
  front = most;
  most = omega (arith, most);
  eight = most;
  below = omega (arith, most);
  limit = lit≤ tt;
  count = lit≤ tt;
  first = first;
  keeps = λ x y. refl;
}

-- a row of SHA-512's block function
long_facts : {name : List ℕ} {number len : ℕ} {words : List ℕ} → zero < len → len ≤ 64
    → length words ≡ 8
    → AreFacts (row_by name number 8 len 64 words (sha2.block_step sha2.family_512))
unfolding sha2.block_step
long_facts some most first = record {
  sizes = inr (refl, refl);
  some = some;
  front = most;
  most = most;
  eight = most;
  below = omega (arith, most);
  limit = lit≤ tt;
  count = lit≤ tt;
  first = first;
  keeps = λ x y. refl;
}

pub facts_of_id : (i : AlgorithmId) → AreFacts (row_of i)
facts_of_id Sha1 = sha1_facts
facts_of_id Sha256 = short_facts (lit< tt) (lit≤ tt) refl
facts_of_id other = long_facts (lit< tt) (lit≤ tt) refl

pub sizes_of : (a : Algorithm) → AreSizes (block_len a) (length_len a)
sizes_of a = (facts_of_id a.id).sizes

-- what holds of both sizes
pub by_sizes : (P : (b l : ℕ) → Type 0) (a : Algorithm) → P 64 8 → P 128 16
    → P (block_len a) (length_len a)
by_sizes P a short long =
    grind (arith, common_steps, sizes_of)

-- a length field that does not have sixteen bytes has eight
pub short_field : (a : Algorithm) → (length_len a ≡ 16 → ⊥) → 8 ≡ length_len a
short_field a other = elim (sizes_of a) [ inl h ↦ rw h.1 refl | inr h ↦ absurd (other h.1) ]

pub block_len-positive : (a : Algorithm) → zero < block_len a
block_len-positive a = elim (sizes_of a) [ inl h ↦ rw h.0 (lit< tt) | inr h ↦ rw h.0 (lit< tt) ]

pub block_len-most : (a : Algorithm) → block_len a ≤ 128
block_len-most a = elim (sizes_of a) [ inl h ↦ rw h.0 (lit≤ tt) | inr h ↦ rw h.0 (lit≤ tt) ]

pub output_len-positive : (a : Algorithm) → zero < output_len a
output_len-positive a = (facts_of_id a.id).some

-- no more than eight words chain
pub word_count-most : (a : Algorithm) → word_count a ≤ 8
word_count-most a = (facts_of_id a.id).count

-- a digest is a front of the chaining words
pub output_len-most : (a : Algorithm) → output_len a ≤ word_len a * word_count a
output_len-most a = (facts_of_id a.id).front

-- no digest has more than 64 bytes
pub output_len-fits : (a : Algorithm) → output_len a ≤ 64
output_len-fits a = (facts_of_id a.id).most

-- eight words have the bytes of a digest
pub eight_words : (a : Algorithm) → output_len a ≤ word_len a * 8
eight_words a = (facts_of_id a.id).eight

-- a digest and a length field are less than a block
pub output_below : (a : Algorithm) → output_len a + length_len a < block_len a
output_below a = (facts_of_id a.id).below

-- no limit is past that of 128 bits
pub max_input_len-most : (a : Algorithm) → max_input_len a ≤ 2 ^ 125 - 1
max_input_len-most a = (facts_of_id a.id).limit
