-- SPDX-License-Identifier: ISC
-- The sides of a node's siblings, from the node up.
use Rattle.std.proofs.lemmas.Bool.{cases_Bool, cases_lt}
use Rattle.std.proofs.lemmas.Bool.Decides.{nat_tests}
use Rattle.std.proofs.Common.{◌≡◌, ◌/◌, ◌%◌, ◌^◌, ◌<◌, ◌≤◌, [], ◌∷◌, ◌∙◌, ◌⊎◌}
use Rattle.std.proofs.Common.{◌+◌, ℕ, zero, suc, true, false, cond, length, refl, ap, sym}
use Rattle.std.proofs.Common.{arith, inl, inr, ⊎_elim}
use Rattle.ring_merkle.specs.Cost.{is_alone, sides}
use Rattle.ring_merkle.specs.Walk.{is_right}
use Rattle.ring_merkle.proofs.Trees.{pow-sum}

pub parity : (n : ℕ) → (n % 2 ≡ 0) ⊎ (n % 2 ≡ 1)
parity n = ⊎_elim (λ lt. inl (omega arith)) (λ ge. inr (omega arith)) (cases_lt (n % 2) 1)

pub alone_is : (n m : ℕ) → is_alone n m ≡ true → (n % 2 ≡ 0) × (n ≡ m)
alone_is n m h = (grind (arith, nat_tests), grind (arith, nat_tests))

-- one level
module _ (h n m : ℕ) where
  pub sides-alone : is_alone n m ≡ true → sides (suc h) n m ≡ sides h (n / 2) (m / 2)
  unfolding sides
  sides-alone t = rw t

  pub sides-joined : is_alone n m ≡ false
      → sides (suc h) n m ≡ is_right n m ∷ sides h (n / 2) (m / 2)
  unfolding sides
  sides-joined f = rw f

  pub sides-last : n % 2 ≡ 0 → n ≡ m → sides (suc h) n m ≡ sides h (n / 2) (m / 2)
  unfolding sides
  sides-last even e = grind (arith, nat_tests)

  pub sides-left : n % 2 ≡ 0 → n < m → sides (suc h) n m ≡ false ∷ sides h (n / 2) (m / 2)
  unfolding sides
  sides-left even lt = grind (arith, nat_tests)

  pub sides-right : n % 2 ≡ 1 → sides (suc h) n m ≡ true ∷ sides h (n / 2) (m / 2)
  unfolding sides
  sides-right odd = grind (arith, nat_tests)

sides-root : (h : ℕ) → sides h 0 0 ≡ []
unfolding sides
sides-root zero = refl
sides-root (suc h) = sides-root h

pub sides-none : (h n m : ℕ) → n ≤ m → m ≡ 0 → sides h n m ≡ []
sides-none h n m le z =
    let o : n ≡ 0 = omega arith in
    ap (λ k. sides h k m) o ∙ ap (λ k. sides h 0 k) z ∙ sides-root h

pub length-sides : (h n m : ℕ) → length (sides h n m) ≤ h
unfolding sides
length-sides zero n m = omega arith
length-sides (suc h) n m =
    ⊎_elim
    (λ t. rw t (omega (arith, length-sides h (n / 2) (m / 2))))
    (λ f. rw f (omega (arith, length-sides h (n / 2) (m / 2))))
    (cases_Bool (is_alone n m))

-- one level more than enough has none
sides-low : (h n m : ℕ) → n ≤ m → m < 2 ^ h → sides (suc h) n m ≡ sides h n m
sides-low zero n m le lt =
    sides-none (suc zero) n m le (omega arith) ∙ sym (sides-none zero n m le (omega arith))
sides-low (suc h) n m le lt =
    let i = sides-low h (n / 2) (m / 2) (omega arith) (omega (arith, pow-sum h)) in
    ⊎_elim
    (λ t. sides-alone (suc h) n m t ∙ i ∙ sym (sides-alone h n m t))
    (λ f. sides-joined (suc h) n m f ∙ ap (λ z. is_right n m ∷ z) i ∙ sym (sides-joined h n m f))
    (cases_Bool (is_alone n m))

-- a level has a sibling or none
pub length-up : (h n m : ℕ) → n ≤ m → m < 2 ^ suc h
    → length (sides (suc h) n m) ≡ cond (is_alone n m) 0 1 + length (sides (suc h) (n / 2) (m / 2))
length-up h n m le lt =
    let low = ap length (sides-low h (n / 2) (m / 2) (omega arith) (omega (arith, pow-sum h))) in
    ⊎_elim
    (λ t. rw (sides-alone h n m t, t) (omega (arith, low)))
    (λ f. rw (sides-joined h n m f, f) (omega (arith, low)))
    (cases_Bool (is_alone n m))
