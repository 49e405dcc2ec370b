-- SPDX-License-Identifier: ISC
-- Keys that make one block and so sign alike.
use Rattle.std.proofs.Common.{◌≡◌, ℕ, ◌+◌, ◌-◌, ◌<◌, ◌≤◌, ◌++◌, List, [], ap}
use Rattle.std.proofs.Common.{arith, length, replicate, sym}
use Rattle.std.proofs.lemmas.List.{replicate-append-replicate}
use Rattle.std.proofs.lemmas.Grind.{common_steps}
use Rattle.ring.specs.Prelude.{Algorithm, block_len, digest_of, hmac_of, key_block, masked}
use Rattle.ring.specs.Prelude.{output_len}
use Rattle.ring.proofs.lemmas.hmac.Keys.{short_key-long, short_key-short}
use Rattle.ring.proofs.Rows.{output_below}
use Rattle.ring.proofs.Lengths.{length-digest_of}

-- keys of one block sign alike
hmac_of-same : (a : Algorithm) (k k' m : List ℕ) → key_block a k ≡ key_block a k'
    → hmac_of a k m ≡ hmac_of a k' m
unfolding hmac_of
hmac_of-same a k k' m e =
    let inside : List ℕ → List ℕ = λ (block : List ℕ). digest_of a (masked 0x36 block ++ m) in
    ap (λ (block : List ℕ). digest_of a (masked 0x5c block ++ inside block)) e

key_block-zeros : (a : Algorithm) (k : List ℕ) (z : ℕ) → length k + z ≤ block_len a
    → key_block a (k ++ replicate z 0) ≡ key_block a k
unfolding key_block
key_block-zeros a k z fits =
    let more : ℕ = block_len a - (length k + z) in
    let rest : z + more ≡ block_len a - length k = omega arith in
    grind (arith, common_steps, short_key-short, replicate-append-replicate {A = ℕ} z more 0)

key_block-digest : (a : Algorithm) (k : List ℕ) → block_len a < length k
    → key_block a k ≡ key_block a (digest_of a k)
unfolding key_block
key_block-digest a k long =
    grind (arith, common_steps, length-digest_of, output_below, short_key-long, short_key-short)

-- zeros more
pub hmac_of-zeros : (a : Algorithm) (k m : List ℕ) (z : ℕ) → length k + z ≤ block_len a
    → hmac_of a (k ++ replicate z 0) m ≡ hmac_of a k m
hmac_of-zeros a k m z fits =
    hmac_of-same a (k ++ replicate z 0) k m (key_block-zeros a k z fits)

-- a long key's digest
pub hmac_of-digest : (a : Algorithm) (k m : List ℕ) → block_len a < length k
    → hmac_of a k m ≡ hmac_of a (digest_of a k) m
hmac_of-digest a k m long = hmac_of-same a k (digest_of a k) m (key_block-digest a k long)

-- no key signs as zeros of a digest's length do
pub hmac_of-nil : (a : Algorithm) (m : List ℕ)
    → hmac_of a [] m ≡ hmac_of a (replicate (output_len a) 0) m
hmac_of-nil a m = sym (hmac_of-zeros a [] m (output_len a) (omega (arith, output_below a)))

pub ruleset key_laws = (hmac_of-zeros, hmac_of-digest, hmac_of-nil)
