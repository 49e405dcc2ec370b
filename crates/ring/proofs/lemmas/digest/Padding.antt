-- SPDX-License-Identifier: ISC
-- The padding is the shortest list of its form.
use Rattle.std.proofs.lemmas.Grind.{common_steps}
use Rattle.std.proofs.Common.{◌≡◌, ℕ, ◌+◌, ◌-◌, ◌*◌, ◌/◌, ◌%◌, ◌≤◌, List, length, arith}
use Rattle.ring.specs.Prelude.{Algorithm, IsPadded, block_len, length_len, padded, padded_blocks}
use Rattle.ring.specs.Prelude.{padded_with}
use Rattle.ring.proofs.lemmas.digest.Outputs.{length-bytes_high_first}
use Rattle.ring.proofs.Rows.{AreSizes, by_sizes, sizes_of}

length-padded_with : (a : Algorithm) (m : List ℕ) (z : ℕ)
    → length (padded_with a m z) ≡ length m + 1 + z + length_len a
length-padded_with a m z =
    grind (arith, common_steps, length-bytes_high_first)

-- the zeros before a length field of l bytes that fill the last block, of b bytes
abbrev zeros_for : (n b l : ℕ) → ℕ
zeros_for n b l = ((n + l) / b + 1) * b - (n + 1 + l)

least : (n b l : ℕ) → AreSizes b l
    → ((n + 1 + zeros_for n b l + l) % b ≡ 0)
    × ((z : ℕ) → (n + 1 + z + l) % b ≡ 0 → zeros_for n b l ≤ z)
least n b l s =
    grind (arith, common_steps)

pub padded_is_padded : (a : Algorithm) (m : List ℕ) → IsPadded a m (padded a m)
unfolding padded
padded_is_padded a m =
    grind (arith, common_steps, least, sizes_of, length-padded_with)

-- the padded message has as many bytes as its blocks
pub length-padded : (a : Algorithm) (m : List ℕ)
    → length (padded a m) ≡ padded_blocks a (length m) * block_len a
unfolding padded
length-padded a m =
    grind (arith, common_steps, length-padded_with, by_sizes)
