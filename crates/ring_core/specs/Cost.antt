-- SPDX-License-Identifier: ISC
-- What a contract sees of a meter.
use Rattle.std.specs.Prelude.{ℕ, ◌+◌, ◌-◌, ◌^◌, ◌==◌, if◌then◌else◌, min}

-- the two counts of a meter
pub record Counts : Type 0 where
  -- the runs of a block function on one block
  pub blocks : ℕ
  -- the pairs of bytes compared
  pub byte_pairs : ℕ

-- a count after n more, cut off at 2 ^ 128 - 1
abbrev pub raised_count : ℕ → ℕ → ℕ
raised_count count n = count + min n (2 ^ 128 - 1 - count)

-- the counts after so many more blocks and pairs of bytes
unfoldable pub raised : Counts → ℕ → ℕ → Counts
raised c blocks pairs =
    record { blocks = raised_count c.blocks blocks; byte_pairs = raised_count c.byte_pairs pairs }

-- the pairs of bytes that a comparison of two lengths reads
abbrev pub compared_pairs : ℕ → ℕ → ℕ
compared_pairs m n = if m == n then n else 0
