-- SPDX-License-Identifier: ISC
-- What a meter counts.
use Rattle.std.specs.Prelude.{◌≡◌, ℕ, ◌+◌, ◌*◌, List, length}
use Rattle.base64.specs.Rfc4648.{unpadded_len}
use Rattle.ring.specs.Prelude.{Counts, IsTagWithin, compared_pairs, padded_blocks}
use Rattle.ring.specs.Prelude.{raised}
use Rattle.ring.specs.declared.digest.algorithm.Algorithm.{Algorithm}
use Rattle.ring_tokens.specs.Alg.{algorithm_of, hash_len}
use Rattle.ring_tokens.specs.Otp.{digits_of}
use Rattle.ring_tokens.specs.Parts.{IsCut}
use Rattle.ring_tokens.specs.declared.alg.Alg.{Alg}
use Rattle.ring_tokens.specs.declared.otp.Digits.{Digits}

-- the blocks of a tag of n bytes
abbrev pub tag_blocks : Algorithm → ℕ → ℕ
tag_blocks a n = padded_blocks a n + 1

-- the bytes of a token that are signed, by the lengths of its header and its payload
abbrev pub signed_len : (h p : List ℕ) → ℕ
signed_len h p = length h + 1 + length p

-- a verification runs the blocks of the signed bytes and compares a whole tag, whatever the
-- signature is; it does neither where the text has no three parts or HMAC does not admit them
pub record HasVerified (a : Alg) (token : List ℕ) (before after : Counts) : Type 0 where
  pub cost : (h p s : List ℕ) → IsCut token h p s
      → IsTagWithin (algorithm_of a) (signed_len h p)
      → after ≡ raised before (tag_blocks (algorithm_of a) (signed_len h p)) (hash_len a)
  pub untested : ((h p s : List ℕ) → IsCut token h p s
      → IsTagWithin (algorithm_of a) (signed_len h p) → ⊥)
      → after ≡ before

-- the blocks of a token that is written for a payload of n bytes
abbrev pub signed_blocks : Alg → ℕ → ℕ
signed_blocks a n = tag_blocks (algorithm_of a) (36 + 1 + unpadded_len n)

-- the blocks of a one-time password: a counter has 8 bytes
abbrev pub otp_blocks : Algorithm → ℕ
otp_blocks a = tag_blocks a 8

-- n passwords are made, and each compared with a text of `len` bytes
abbrev pub raised_by_tests : Counts → Algorithm → Digits → (len n : ℕ) → Counts
raised_by_tests m a digits len n =
    raised m (n * otp_blocks a) (n * compared_pairs (digits_of digits) len)
