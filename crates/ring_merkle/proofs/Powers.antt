-- SPDX-License-Identifier: ISC
-- The bits that are set in a number, and powers of two among numbers.
use Rattle.std.proofs.lemmas.Bool.{cases_lt}
use Rattle.std.proofs.lemmas.Bool.Decides.{nat_tests}
use Rattle.std.proofs.lemmas.Nat.{ones-le, zero_from_ones}
use Rattle.std.proofs.Common.{◌≡◌, ◌+◌, ◌-◌, ◌/◌, ◌%◌, ◌==◌, ◌∙◌, ℕ, ap}
use Rattle.std.proofs.Common.{arith, ⊎_elim}
use Rattle.std.specs.Int.{is_power_of_two}
use Rattle.std.specs.Prelude.{count_ones}
use lib.Count.{ones_step}

pub ones-zero : count_ones 0 ≡ 0
ones-zero = omega (arith, ones-le 0 0 (omega arith))

pub ones-odd : (n : ℕ) → n % 2 ≡ 1 → count_ones n ≡ 1 + count_ones (n / 2)
ones-odd n e = omega (arith, ones_step n)

pub ones-even : (n : ℕ) → n % 2 ≡ 0 → count_ones n ≡ count_ones (n / 2)
ones-even n e = omega (arith, ones_step n)

pub power-odd : (n : ℕ) → n % 2 ≡ 1 → is_power_of_two n ≡ (n - 1 == 0)
power-odd n odd =
    let o = ones-odd n odd in
    ⊎_elim
    (λ lt. let none : n / 2 ≡ 0 = omega arith in
    let z = ap count_ones none ∙ ones-zero in grind (arith, nat_tests))
    (λ ge. let some = zero_from_ones (n / 2) in grind (arith, nat_tests))
    (cases_lt n 2)

pub power-even : (n : ℕ) → n % 2 ≡ 0 → is_power_of_two n ≡ is_power_of_two (n / 2)
power-even n even = ap (λ k. k == 1) (ones-even n even)
