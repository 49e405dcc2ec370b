-- SPDX-License-Identifier: ISC
-- PBKDF2 (RFC 2898, section 5.2): the password p, the salt s, the iteration count c.
use Rattle.std.specs.Prelude.{◌≡◌, ℕ, zero, suc, List, ◌++◌, length, replicate, take}
use Rattle.std.specs.Int.{bytes_high_first}
use Rattle.ring_core.specs.Bytes.{xor_lists}
use Rattle.ring.specs.Algorithm.{output_len}
use Rattle.ring.specs.Hmac.{hmac_digest, hmac_of}
use Rattle.ring.specs.Limits.{CanVerify, derive_rounds}
use Rattle.ring.specs.Pieces.{joined_blocks}
use Rattle.ring.specs.declared.digest.algorithm.Algorithm as digest
use Rattle.ring.specs.declared.pbkdf2.algorithm.Algorithm.{Algorithm}
use Rattle.ring.specs.declared.hmac.key.Algorithm as hmac

-- the digest algorithm of the pseudorandom function
abbrev pub pbkdf2_digest : Algorithm → digest.Algorithm
pbkdf2_digest a = hmac_digest a.0

-- PBKDF2 over an HMAC algorithm
abbrev pub pbkdf2_over : hmac.Algorithm → Algorithm
pbkdf2_over a = record { 0 = a }

-- U_1 = PRF (P, S || INT (i)), U_2 = PRF (P, U_1), ..: each is the tag of the one before it, and
-- S || INT (i) stands before U_1
unfoldable pub pbkdf2_u : digest.Algorithm → (p s : List ℕ) → (i : ℕ) → ℕ → List ℕ
pbkdf2_u a p s i zero = s ++ bytes_high_first 4 i
pbkdf2_u a p s i (suc j) = hmac_of a p (pbkdf2_u a p s i j)

-- T_i = F (P, S, c, i) = U_1 \xor U_2 \xor .. \xor U_c
unfoldable pub pbkdf2_t : digest.Algorithm → (p s : List ℕ) → (i : ℕ) → ℕ → List ℕ
pbkdf2_t a p s i zero = replicate (output_len a) 0
pbkdf2_t a p s i (suc j) = xor_lists (pbkdf2_t a p s i j) (pbkdf2_u a p s i (suc j))

-- DK: the first n bytes of T_1 || T_2 || .. || T_l, where l is n / hLen rounded up
unfoldable pub dk : digest.Algorithm → (p s : List ℕ) → (c n : ℕ) → List ℕ
dk a p s c n = take n (joined_blocks (λ i. pbkdf2_t a p s i c) (derive_rounds a n))

-- the value can be verified, and is the derivation of its own length
pub record IsDerived (a : digest.Algorithm) (p s : List ℕ) (c : ℕ) (value : List ℕ) : Type 0 where
  pub within : CanVerify a (length p) (length s) (length value)
  pub same : value ≡ dk a p s c (length value)
