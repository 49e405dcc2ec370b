-- SPDX-License-Identifier: ISC
-- Sums over places, and what a meter rises by there.
use Rattle.std.proofs.Common.{◌≡◌, ℕ, ◌+◌, ◌*◌, ◌<◌, add-one, add-suc, arith, refl, suc, sym, zero}
use Rattle.ring.specs.Prelude.{Counts, raised, sum_below}
use Rattle.ring_core.proofs.Costs.{raised-none, raised-raised}
use Rattle.std.proofs.lemmas.Grind.{common_steps}

-- a rise by nothing
pub raised_zero : (m : Counts) (b p : ℕ) → b ≡ 0 → p ≡ 0 → raised m b p ≡ m
raised_zero m b p blocks pairs = rw (blocks, pairs) (sym (raised-none m))

-- what two rises make of both counts
pub raised-both : (m0 : Counts) {m1 m2 : Counts} (b p c q : ℕ) {s t : ℕ}
    → (m1 ≡ raised m0 b p) × (m2 ≡ raised m1 c q) → b + c ≡ s → p + q ≡ t → m2 ≡ raised m0 s t
raised-both m0 b p c q rises blocks pairs = grind (arith, raised-raised)

-- and of the blocks alone
pub raised-sum : (m0 : Counts) {m1 m2 : Counts} (b c : ℕ) {s : ℕ} → m1 ≡ raised m0 b 0
    → m2 ≡ raised m1 c 0 → b + c ≡ s → m2 ≡ raised m0 s 0
raised-sum m0 b c e1 e2 sum = grind (arith, raised-raised)

pub sum_below-none : (f : ℕ → ℕ) → sum_below f 0 ≡ 0
unfolding sum_below
sum_below-none f = refl

-- a sum of one place more
pub sum_below-next : (f : ℕ → ℕ) (m : ℕ) → sum_below f m + f m ≡ sum_below f (m + 1)
unfolding sum_below
sum_below-next f m = rw add-one refl

-- the sum with b more at each place
pub sum_below-more : (f : ℕ → ℕ) (b m : ℕ) → sum_below f m + m * b ≡ sum_below (λ i. f i + b) m
unfolding sum_below
sum_below-more f b zero = grind arith
sum_below-more f b (suc m) = grind (arith, sum_below-more f b m)

-- and with one and b more
pub sum_below-one_more : (f : ℕ → ℕ) (b m : ℕ)
    → sum_below f m + m * (1 + b) ≡ sum_below (λ i. f i + 1 + b) m
sum_below-one_more f b m =
    grind (arith, sum_below-more f 1 m, sum_below-more (λ i. f i + 1) b m)

-- the sum of two sums, the other as often as R
pub sum_below-times : (f h : ℕ → ℕ) (R m : ℕ)
    → sum_below f m + R * sum_below h m ≡ sum_below (λ i. f i + R * h i) m
unfolding sum_below
sum_below-times f h R zero = grind arith
sum_below-times f h R (suc m) = grind (arith, sum_below-times f h R m)

-- a sum of m places and of k more
pub sum_below-append : (f : ℕ → ℕ) (m k : ℕ)
    → sum_below f m + sum_below (λ j. f (m + j)) k ≡ sum_below f (m + k)
unfolding sum_below
sum_below-append f m zero = let e : m + 0 ≡ m = omega arith in rw e (omega arith)
sum_below-append f m (suc k) = rw add-suc (omega (arith, sum_below-append f m k))

pub sum_below-same : (f h : ℕ → ℕ) (m : ℕ) → ((i : ℕ) → i < m → f i ≡ h i)
    → sum_below f m ≡ sum_below h m
unfolding sum_below
sum_below-same f h zero same = refl
sum_below-same f h (suc m) same =
    let step = sum_below-same f h m (λ i below. same i (omega (arith, below))) in
    omega (arith, step, same m (omega arith))

pub ruleset rises = (common_steps, raised_zero)
