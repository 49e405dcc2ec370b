-- SPDX-License-Identifier: ISC
-- Places that are shifted until a test holds.
use Rattle.std.proofs.lemmas.Bool.{cases_Bool, cases_lt, eqb-false}
use Rattle.std.proofs.Common.{◌≡◌, ◌/◌, ◌%◌, ◌^◌, ◌<◌, ◌∙◌, ℕ, zero, suc, Bool, true, false}
use Rattle.std.proofs.Common.{refl, ap, sym, arith, ⊎_elim}
use Rattle.ring_merkle.specs.Walk.{is_even, shifted_last, shifted_node}
use Rattle.ring_merkle.proofs.Trees.{pow-sum}

-- a node alone is shifted as the last one is where it is the last one
pub shift-same : (t : ℕ → Bool) (h n : ℕ) → shifted_last t h n n ≡ shifted_node t h n
unfolding shifted_node shifted_last
shift-same t zero n = refl
shift-same t (suc h) n = rw (shift-same t h (n / 2))

-- where the test holds, and where it does not
module _ (t : ℕ → Bool) where
  pub shift-stop : (h n m : ℕ) → t n ≡ true → shifted_last t h n m ≡ m
  unfolding shifted_last
  shift-stop zero n m e = refl
  shift-stop (suc h) n m e = rw e

  pub shift-up : (h n m : ℕ) → t n ≡ false
      → shifted_last t (suc h) n m ≡ shifted_last t h (n / 2) (m / 2)
  unfolding shifted_last
  shift-up h n m e = rw e

  -- one shift more changes nothing where there are enough
  shift-more : t 0 ≡ true → (h n m : ℕ) → n < 2 ^ h
      → shifted_last t (suc h) n m ≡ shifted_last t h n m
  shift-more z zero n m lt =
      let o : n ≡ 0 = omega arith in
      let e : t n ≡ true = ap t o ∙ z in
      shift-stop (suc zero) n m e ∙ sym (shift-stop zero n m e)
  shift-more z (suc h) n m lt =
      ⊎_elim
      (λ e. shift-stop (suc (suc h)) n m e ∙ sym (shift-stop (suc h) n m e))
      (λ e. shift-up (suc h) n m e
      ∙ shift-more z h (n / 2) (m / 2) (omega (arith, pow-sum h)) ∙ sym (shift-up h n m e))
      (cases_Bool (t n))

  -- a place and the one above it, where the test does not hold yet
  pub shift-again : t 0 ≡ true → (h n m : ℕ) → n < 2 ^ suc h → t n ≡ false
      → shifted_last t (suc h) n m ≡ shifted_last t (suc h) (n / 2) (m / 2)
  shift-again z h n m lt e =
      shift-up h n m e ∙ sym (shift-more z h (n / 2) (m / 2) (omega (arith, pow-sum h)))

-- a node that is not the last one stays before the last one
pub even-below : (h n m : ℕ) → n < m → shifted_node is_even h n < shifted_last is_even h n m
unfolding shifted_node shifted_last
even-below zero n m lt = lt
even-below (suc h) n m lt =
    ⊎_elim
    (λ e. rw e lt)
    (λ e. let odd = eqb-false (n % 2) 0 e in
    let below : n / 2 < m / 2 =
    ⊎_elim (λ lt. lt) (λ ge. absurd (odd (omega arith))) (cases_lt (n / 2) (m / 2)) in
    rw e (even-below h (n / 2) (m / 2) below))
    (cases_Bool (is_even n))

-- from one place and from another the shifts lead to the same
pub record Shifted (t : ℕ → Bool) (n0 m0 n m : ℕ) : Type 0 where
  pub below : n < 2 ^ 64
  pub node : shifted_node t 64 n0 ≡ shifted_node t 64 n
  pub last : shifted_last t 64 n0 m0 ≡ shifted_last t 64 n m

pub shifted-up : {t : ℕ → Bool} {n0 m0 n m : ℕ} → t 0 ≡ true → t n ≡ false
    → Shifted t n0 m0 n m → Shifted t n0 m0 (n / 2) (m / 2)
shifted-up {t} {n0} {m0} {n} {m} z e s = record {
  below = omega (arith, s.below);
  node = s.node ∙ sym (shift-same t 64 n) ∙ shift-again t z 63 n n s.below e
      ∙ shift-same t 64 (n / 2);
  last = s.last ∙ shift-again t z 63 n m s.below e;
}

pub shifted-end : {t : ℕ → Bool} {n0 m0 n m : ℕ} → t n ≡ true → Shifted t n0 m0 n m
    → (n ≡ shifted_node t 64 n0) × (m ≡ shifted_last t 64 n0 m0)
shifted-end {t} {n0} {m0} {n} {m} e s = (
  sym (s.node ∙ sym (shift-same t 64 n) ∙ shift-stop t 64 n n e),
  sym (s.last ∙ shift-stop t 64 n m e),
)
