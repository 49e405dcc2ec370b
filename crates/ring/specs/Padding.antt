-- SPDX-License-Identifier: ISC
-- Padding (FIPS 180-4, section 5.1).
use Rattle.std.specs.Prelude.{◌≡◌, ℕ, ◌+◌, ◌-◌, ◌*◌, ◌/◌, ◌%◌, ◌≤◌, List, ◌∷◌, ◌++◌, length}
use Rattle.std.specs.Prelude.{replicate}
use Rattle.std.specs.Int.{bytes_high_first}
use Rattle.ring.specs.Algorithm.{block_len, length_len}
use Rattle.ring.specs.declared.digest.algorithm.Algorithm.{Algorithm}

-- a list of whole blocks
abbrev pub IsWhole : Algorithm → List ℕ → Type 0
IsWhole a p = length p % block_len a ≡ 0

-- the message, the byte 0x80, z zeros and the message's length in bits, high byte first
abbrev pub padded_with : Algorithm → List ℕ → ℕ → List ℕ
padded_with a m z = m ++ 0x80 ∷ replicate z 0 ++ bytes_high_first (length_len a) (8 * length m)

-- p is the padded message m: the shortest list of that form that is a list of whole blocks (5.1.1,
-- 5.1.2)
pub record IsPadded (a : Algorithm) (m p : List ℕ) : Type 0 where
  pub form : (z : ℕ) × (p ≡ padded_with a m z)
  pub whole : IsWhole a p
  pub shortest : (z : ℕ) → IsWhole a (padded_with a m z) → length p ≤ length (padded_with a m z)

-- the blocks of a padded message of n bytes: they have room for it, the byte 0x80 and the length,
-- and one block fewer has not
abbrev pub padded_blocks : Algorithm → ℕ → ℕ
padded_blocks a n = (n + length_len a) / block_len a + 1

-- the zeros that fill the last block of a message of n bytes
abbrev pub zeros_of : Algorithm → ℕ → ℕ
zeros_of a n = padded_blocks a n * block_len a - (n + 1 + length_len a)

-- the padded message in closed form
unfoldable pub padded : Algorithm → List ℕ → List ℕ
padded a m = padded_with a m (zeros_of a (length m))

-- what follows the whole blocks of a message of n bytes: the bytes x that are left of it, and the
-- padding
abbrev pub tail_of : Algorithm → List ℕ → ℕ → List ℕ
tail_of a x n =
    x ++ 0x80 ∷ replicate (zeros_of a (length x)) 0 ++ bytes_high_first (length_len a) (8 * n)
