-- SPDX-License-Identifier: ISC
-- Where the tables of the standard come from: the roots of the first primes (4.2.2, 4.2.3, 5.3).
use Rattle.std.specs.Prelude.{ℕ, ◌+◌, ◌-◌, ◌*◌, ◌%◌, ◌^◌, ◌<◌, ◌≤◌, ◌==◌, ◌&&◌, Bool, not, List}
use Rattle.std.specs.Prelude.{nat_lt}
use Rattle.std.specs.List.{filter, list_all, range_with_len}

-- whether n is a prime: no number from 2 to n - 1 divides it
abbrev pub is_prime : ℕ → Bool
is_prime n = nat_lt 1 n && list_all (λ d. not (n % d == 0)) (range_with_len 2 (n - 2))

-- the first 80 primes: those up to 409
unfoldable pub first_primes : List ℕ
first_primes = filter is_prime (range_with_len 0 410)

-- k is the first w bits of the fractional part of the root of order e of p
pub record IsRootFraction (e w p k : ℕ) : Type 0 where
  pub whole : ℕ
  pub fraction : k < 2 ^ w
  pub at_most : (whole * 2 ^ w + k) ^ e ≤ p * 2 ^ (e * w)
  pub above : p * 2 ^ (e * w) < (whole * 2 ^ w + k + 1) ^ e
