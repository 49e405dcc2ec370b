-- SPDX-License-Identifier: ISC
-- Where initial words come from (FIPS 180-4, sections 5.3.3, 5.3.4 and 5.3.5).
use Rattle.std.specs.Prelude.{ℕ, ◌<◌, List, drop, slice_index}
use Rattle.ring_core.specs.Roots.{IsRootFraction, first_primes}

-- eight words of w bits: the first bits of the fractional parts of the square roots of the eight
-- primes past the first `skip`
pub record AreSquareRoots (w skip : ℕ) (ws : List ℕ) : Type 0 where
  pub each : (t : ℕ) → t < 8
      → IsRootFraction 2 w (slice_index (drop skip first_primes) t) (slice_index ws t)
