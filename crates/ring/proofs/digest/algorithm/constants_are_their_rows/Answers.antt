-- SPDX-License-Identifier: ISC
use Rattle.std.proofs.Common.{◌≡◌, ℕ, List, arith, drop, length, refl, true}
use Rattle.ring_core.specs.Prelude.{first_primes}
use Rattle.ring.specs.Prelude.{AreSquareRoots}
use Rattle.ring_core.proofs.Roots.{fraction_at, table_test}
use Rattle.ring.proofs.digest.algorithm.constants_are_their_rows.Goals as goal

-- eight words that pass the test of the table of primes
roots : (w skip : ℕ) (ws : List ℕ) → length ws ≡ 8
    → table_test 2 w (drop skip first_primes) ws ≡ true → AreSquareRoots w skip ws
roots w skip ws eight passes = record {
  each = λ t below.
      fraction_at 2 w (drop skip first_primes) ws t passes (omega (arith, eight, below));
}

pub returns-clause-square_roots : goal.returns-clause-square_roots
unfolding first_primes
returns-clause-square_roots c =
    (roots 32 0 _ refl refl, roots 64 8 _ refl refl, roots 64 0 _ refl refl)
