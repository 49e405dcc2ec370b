-- SPDX-License-Identifier: ISC
-- The numbers of blocks of lines: a new meter shows them.
use Rattle.std.proofs.Common.{◌≡◌, ℕ, ◌+◌, ◌-◌, ◌*◌, ◌^◌, ◌<◌, ◌≤◌, nat_le, if◌then◌else◌, true}
use Rattle.std.proofs.Common.{false, inl, inr, ap, arith, mul-le-mul_right, ◌∙◌}
use Rattle.std.proofs.lemmas.Grind.{div_ceil_times}
use Rattle.std.specs.Int.{div_ceil}
use Rattle.ring.proofs.Costs.{IsNew, block_len-most, counted_new, max_input_len-most}
use Rattle.ring.proofs.Costs.{output_len-fits, output_len-positive, raised-raised, sizes_of}
use Rattle.ring.specs.Algorithm.{block_len, output_len}
use Rattle.ring.specs.Cost.{Counts, derive_blocks, derive_rounds, fill_blocks, fill_rounds}
use Rattle.ring.specs.Cost.{iterate_blocks, key_blocks, padded_blocks, raised}
use Rattle.ring.specs.Limits.{CanDerive, IsInfoWithin, IsOutputWithin}
use Rattle.ring.specs.declared.digest.algorithm.Algorithm.{Algorithm}

-- a block has at least 64 bytes
padded_blocks-most : (a : Algorithm) (n : ℕ) → 64 * padded_blocks a n ≤ n + 80
padded_blocks-most a n =
    elim (sizes_of a) [ inl e ↦ rw (e.0, e.1) (omega arith) | inr e ↦ rw (e.0, e.1) (omega arith) ]

key_blocks-most : (a : Algorithm) (n : ℕ) → 64 * key_blocks a n ≤ n + 208
key_blocks-most a n =
    let most = padded_blocks-most a n in
    elim (nat_le n (block_len a))
    as (λ b. 64 * ((if b then 0 else padded_blocks a n) + 2) ≤ n + 208) [
      | true ↦ omega arith
      | false ↦ omega (arith, most)
    ]

-- the blocks of a digest
pub digest_count : {m0 m1 : Counts} (a : Algorithm) (n : ℕ) → IsNew m0 → n < 2 ^ 64
    → m1 ≡ raised m0 (padded_blocks a n) 0 → m1.blocks ≡ padded_blocks a n
digest_count {m0} {m1} a n new short e =
    counted_new m0 m1 _ 0 new e (omega (arith, padded_blocks-most a n))

-- a key of k bytes leaves room for further blocks
pub key_room : {m0 m1 : Counts} (a : Algorithm) (k : ℕ) → IsNew m0 → k < 2 ^ 64
    → m1 ≡ raised m0 (key_blocks a k) 0 → m1.blocks < 2 ^ 128 - 1
key_room {m0} {m1} a k new short e =
    let most = key_blocks-most a k in
    omega (arith, most, counted_new m0 m1 (key_blocks a k) 0 new e (omega (arith, most)))

-- the blocks of a key of k bytes, and of the tag of n bytes
pub tag_count : {m0 m1 m2 : Counts} (a : Algorithm) (k n pairs : ℕ) → IsNew m0
    → (k < 2 ^ 64) × (n < 2 ^ 64) → m1 ≡ raised m0 (key_blocks a k) 0
    → m2 ≡ raised m1 (padded_blocks a n + 1) pairs
    → m2.blocks ≡ key_blocks a k + (padded_blocks a n + 1)
tag_count {m0} {m2 = m2} a k n pairs new short e1 e2 =
    let all = rw e1 at e2 in
    counted_new m0 m2 _ _ new (all ∙ raised-raised m0 (key_blocks a k) 0 _ pairs)
    (omega (arith, key_blocks-most a k, padded_blocks-most a n))

-- fewer than r + 1 rounds, where r outputs are enough
few_rounds : (a : Algorithm) (r n : ℕ) → n ≤ r * output_len a → div_ceil n (output_len a) ≤ r
few_rounds a r n enough =
    let up = (div_ceil_times n (output_len a) (output_len-positive a)).1 in
    grind (arith, mul-le-mul_right)

-- an output's blocks are far fewer than a meter can show
fill_blocks-most : {a : Algorithm} {i n : ℕ} → IsOutputWithin a n → IsInfoWithin a i n
    → fill_blocks a i n < 2 ^ 127
fill_blocks-most {a} {i} {n} few within =
    let first = within.first_round in
    let rounds : fill_rounds a n - 1 ≤ 254 = omega (arith, few_rounds a 255 n few) in
    let short = output_len-fits a in
    let block = block_len-most a in
    let most_first = padded_blocks-most a (i + 1) in
    let most_next = padded_blocks-most a (output_len a + i + 1) in
    let all = mul-le-mul_right (padded_blocks a (output_len a + i + 1) + 1) rounds in
    let longest = max_input_len-most a in
    omega (arith, first, within.next_rounds, longest, short, block, most_first, most_next, all)

-- the blocks of a salt, of what it extracts, and of an output of this
pub output_count : {m0 m1 m2 m3 : Counts} {a : Algorithm} {s x i n : ℕ} → IsNew m0 → s < 2 ^ 64
    → x < 2 ^ 64 → IsOutputWithin a n × IsInfoWithin a i n → m1 ≡ raised m0 (key_blocks a s) 0
    → m2 ≡ raised m1 (padded_blocks a x + 3) 0 → m3 ≡ raised m2 (fill_blocks a i n) 0
    → m3.blocks ≡ key_blocks a s + (padded_blocks a x + 1) + 2 + fill_blocks a i n
output_count {m0} {m3 = m3} {a} {s} {x} {i} {n} new short_s short_x within e1 e2 e3 =
    let key : ℕ = key_blocks a s in
    let extracted : ℕ = padded_blocks a x + 3 in
    let filled : ℕ = fill_blocks a i n in
    let all = rw (e2, e1) at e3 in
    let sum =
    all ∙ ap (λ (m : Counts). raised m filled 0) (raised-raised m0 key 0 extracted 0)
    ∙ raised-raised m0 (key + extracted) 0 filled 0 in
    let far = fill_blocks-most within.0 within.1 in
    let most : key + extracted + filled < 2 ^ 128 =
    omega (arith, key_blocks-most a s, padded_blocks-most a x, far) in
    omega (arith, counted_new m0 m3 (key + extracted + filled) 0 new sum most)

-- the blocks of a derivation
pub derive_count : {a : Algorithm} {m0 m1 : Counts} {p s n : ℕ} (c pairs : ℕ) → IsNew m0
    → p < 2 ^ 64 → s < 2 ^ 64 → c < 2 ^ 32 → CanDerive a p s n
    → m1 ≡ raised m0 (derive_blocks a p s c n) pairs → m1.blocks ≡ derive_blocks a p s c n
derive_count {a} {m0} {m1} {p} {s} {n} c pairs new short_p short_s short_c can e =
    let rounds : derive_rounds a n ≤ 2 ^ 32 - 1 = few_rounds a (2 ^ 32 - 1) n can.rounds in
    let most_p = key_blocks-most a p in
    let most_s = padded_blocks-most a (s + 4) in
    let all = mul-le-mul_right (iterate_blocks a s c) rounds in
    counted_new m0 m1 (derive_blocks a p s c n) pairs new e (omega (arith, most_p, most_s, all))
