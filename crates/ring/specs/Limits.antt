-- SPDX-License-Identifier: ISC
-- The limits of lengths, in bytes. What is limited and by what number stands here once: as lengths,
-- as limits of these, and as tests of the limits.
use Rattle.std.specs.Prelude.{◌↔◌, ℕ, ◌+◌, ◌-◌, ◌*◌, ◌^◌, ◌<◌, ◌≤◌, Bool, nat_le, ◌==◌, ◌&&◌}
use Rattle.std.specs.Prelude.{◌||◌}
use Rattle.std.specs.Int.{div_ceil}
use Rattle.ring.specs.Algorithm.{block_len, max_input_len, output_len}
use Rattle.ring.specs.declared.digest.algorithm.Algorithm.{Algorithm}

-- what the inner digest of a tag takes in: one block, and a message of n bytes (RFC 2104,
-- section 2)
abbrev pub tag_input_len : Algorithm → ℕ → ℕ
tag_input_len a n = block_len a + n

-- the message of an output's first round: the info, and the round's number in one byte (RFC 5869,
-- section 2.3)
abbrev pub first_round_len : ℕ → ℕ
first_round_len info_len = info_len + 1

-- the message of each further round: before them the tag of the round before
abbrev pub next_round_len : Algorithm → ℕ → ℕ
next_round_len a info_len = output_len a + info_len + 1

-- the longest output, of as many rounds as one byte numbers from 1 on (RFC 5869, section 2.3)
abbrev pub max_okm_len : Algorithm → ℕ
max_okm_len a = 255 * output_len a

-- the message of a derivation's first iterate: the salt, and the round's number in 4 bytes
-- (RFC 2898, section 5.2)
abbrev pub first_iterate_len : ℕ → ℕ
first_iterate_len salt_len = salt_len + 4

-- the rounds of a derivation of n bytes: n / hLen rounded up (RFC 2898, section 5.2)
abbrev pub derive_rounds : Algorithm → ℕ → ℕ
derive_rounds a n = div_ceil n (output_len a)

-- the longest derivation, of as many rounds as 4 bytes number from 1 on (RFC 2898, section 5.2)
abbrev pub max_dk_len : Algorithm → ℕ
max_dk_len a = (2 ^ 32 - 1) * output_len a

-- a message of n bytes is within the limit of digests
abbrev pub IsMessageWithin : Algorithm → ℕ → Type 0
IsMessageWithin a n = n ≤ max_input_len a

-- a message of n bytes is within the limit of tags
abbrev pub IsTagWithin : Algorithm → ℕ → Type 0
IsTagWithin a n = tag_input_len a n ≤ max_input_len a

-- n bytes of output may be asked for
abbrev pub IsOutputWithin : Algorithm → ℕ → Type 0
IsOutputWithin a n = n ≤ max_okm_len a

-- the rounds of an output of n bytes are within the limit of tags
pub record IsInfoWithin (a : Algorithm) (info_len n : ℕ) : Type 0 where
  pub first_round : IsTagWithin a (first_round_len info_len)
  pub next_rounds : output_len a < n → IsTagWithin a (next_round_len a info_len)

-- n bytes can be derived from a secret and a salt of these lengths
pub record CanDerive (a : Algorithm) (secret_len salt_len n : ℕ) : Type 0 where
  pub secret : secret_len ≤ max_input_len a
  pub salt : 0 < n → IsTagWithin a (first_iterate_len salt_len)
  pub rounds : n ≤ max_dk_len a

-- a derived value of n bytes can be verified: it is not empty, and n bytes can be derived
pub record CanVerify (a : Algorithm) (secret_len salt_len n : ℕ) : Type 0 where
  pub nonempty : 0 < n
  pub within : CanDerive a secret_len salt_len n

-- the limits as numbers, by those of the longest message, of a block and of a digest
pub record HasLimits (a : Algorithm) (most block digest : ℕ) : Type 0 where
  pub message : (n : ℕ) → IsMessageWithin a n ↔ (n ≤ most)
  pub tag : (n : ℕ) → IsTagWithin a n ↔ (n ≤ most - block)
  pub output : (n : ℕ) → IsOutputWithin a n ↔ (n ≤ 255 * digest)
  pub info : (i n : ℕ) → IsInfoWithin a i n
      ↔ ((i ≤ most - (block + 1)) × (digest < n → i ≤ most - (block + digest + 1)))
  pub derivation : (p s n : ℕ) → CanDerive a p s n
      ↔ ((p ≤ most) × (0 < n → s ≤ most - (block + 4)) × (n ≤ (2 ^ 32 - 1) * digest))

-- whether a message is within the limit of digests
abbrev pub fits : Algorithm → ℕ → Bool
fits a n = nat_le n (max_input_len a)

-- whether n bytes of output may be asked for, and the rounds are within the limit of tags
abbrev pub can_expand : Algorithm → (info_len n : ℕ) → Bool
can_expand a info_len n =
    nat_le n (max_okm_len a)
    && fits a (tag_input_len a (first_round_len info_len))
    && (nat_le n (output_len a) || fits a (tag_input_len a (next_round_len a info_len)))

-- whether n bytes can be derived
abbrev pub can_derive : Algorithm → (secret_len salt_len n : ℕ) → Bool
can_derive a secret_len salt_len n =
    fits a secret_len
    && (n == 0 || fits a (tag_input_len a (first_iterate_len salt_len)))
    && nat_le n (max_dk_len a)

-- whether a derived value of n bytes can be verified
abbrev pub can_verify : Algorithm → (secret_len salt_len n : ℕ) → Bool
can_verify a secret_len salt_len n = nat_le 1 n && can_derive a secret_len salt_len n
