-- SPDX-License-Identifier: ISC
-- Numbers of blocks, from lengths in bytes.
use Rattle.std.specs.Prelude.{ℕ, ◌+◌, ◌-◌, ◌*◌, ◌/◌, max, nat_le, if◌then◌else◌}
use Rattle.std.specs.Int.{div_ceil}
use Rattle.ring.specs.Algorithm.{block_len, output_len}
use Rattle.ring.specs.Limits.{first_iterate_len, first_round_len, next_round_len}
use Rattle.ring.specs.declared.digest.algorithm.Algorithm.{Algorithm}
-- the blocks of a padded message and the rounds of a derivation, as the standards count them
pub use Rattle.ring.specs.Limits.{derive_rounds}
pub use Rattle.ring.specs.Padding.{padded_blocks}
-- what a meter counts, from the crate below
pub use Rattle.ring_core.specs.Cost.{Counts, compared_pairs}
unfoldable pub use Rattle.ring_core.specs.Cost.{raised}

-- the whole blocks in n bytes
abbrev pub whole_blocks : Algorithm → ℕ → ℕ
whole_blocks a n = n / block_len a

-- the blocks of a padded message of n bytes that are left at its end, past its whole blocks
abbrev pub last_blocks : Algorithm → ℕ → ℕ
last_blocks a n = padded_blocks a n - whole_blocks a n

-- the blocks of the digest that stands for a key of n bytes, where it is longer than a block
abbrev pub key_digest_blocks : Algorithm → ℕ → ℕ
key_digest_blocks a n = if nat_le n (block_len a) then 0 else padded_blocks a n

-- the blocks of a key of n bytes: that digest, and the two masked blocks
abbrev pub key_blocks : Algorithm → ℕ → ℕ
key_blocks a n = key_digest_blocks a n + 2

-- the rounds of an output of n bytes: as many as it has tags or parts of one, but one where it has
-- nothing
abbrev pub fill_rounds : Algorithm → ℕ → ℕ
fill_rounds a n = max 1 (div_ceil n (output_len a))

-- the blocks of an output of n bytes with an info of info_len bytes: from the second round on a tag
-- comes before the info
abbrev pub fill_blocks : (a : Algorithm) (info_len n : ℕ) → ℕ
fill_blocks a info_len n =
    padded_blocks a (first_round_len info_len) + 1
    + (fill_rounds a n - 1) * (padded_blocks a (next_round_len a info_len) + 1)

-- the blocks of a derivation's round after c iterations: the first iterate's, and two for each
-- other one
abbrev pub iterate_blocks : (a : Algorithm) (salt_len c : ℕ) → ℕ
iterate_blocks a salt_len c = padded_blocks a (first_iterate_len salt_len) + 1 + 2 * (c - 1)

-- the blocks of a derivation of n bytes after c iterations
abbrev pub derive_blocks : (a : Algorithm) (secret_len salt_len c n : ℕ) → ℕ
derive_blocks a secret_len salt_len c n =
    key_blocks a secret_len + derive_rounds a n * iterate_blocks a salt_len c
