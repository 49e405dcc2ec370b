-- SPDX-License-Identifier: ISC
-- Exclusive ors of bytes, one by one and in lists.
use Rattle.std.proofs.Common.{◌≡◌, ◌↔◌, ℕ, zero, suc, ◌<◌, ◌≤◌, List, [], ◌∷◌, length}
use Rattle.std.proofs.Common.{slice_index_or, slice_set, take, bit_or, refl, sym, ap, arith, min}
use Rattle.std.specs.Int.Bits.{xor_add_and, xor_self}
use Rattle.std.proofs.lemmas.Nat.{and_le_l, and_le_r, le_or_l, le_or_r}
use Rattle.ring_core.specs.Prelude.{◌⊕◌, xor_lists}

⊕-zero : (x y : ℕ) → x ⊕ y ≡ 0 → x ≡ y
⊕-zero x y none = omega (arith, xor_add_and x y, and_le_l x y, and_le_r x y)

-- nothing differs where nothing differed before and this pair is equal
pub none_differs : (d x y : ℕ) → (bit_or d (x ⊕ y) ≡ 0) ↔ ((d ≡ 0) × (x ≡ y))
none_differs d x y = (
  λ none. (omega (arith, le_or_l d (x ⊕ y)), ⊕-zero x y (omega (arith, le_or_r d (x ⊕ y)))),
  λ both. rw (both.0, both.1, xor_self) refl,
)

pub xor_lists-none : (xs : List ℕ) → xor_lists xs [] ≡ xs
xor_lists-none [] = refl
xor_lists-none (x ∷ xs) = refl

-- one item more of the second list
pub xor_lists-step : (xs ys : List ℕ) (i : ℕ) → i < length xs → i < length ys → (zs : List ℕ)
    → zs ≡ xor_lists xs (take i ys)
    → slice_set zs i (slice_index_or zs i 0 ⊕ slice_index_or ys i 0)
    ≡ xor_lists xs (take (suc i) ys)
xor_lists-step [] ys i in_xs in_ys zs e = absurd (omega arith)
xor_lists-step (x ∷ xs) [] i in_xs in_ys zs e = absurd (omega arith)
xor_lists-step (x ∷ xs) (y ∷ ys) zero in_xs in_ys zs e =
    rw e (ap (λ ws. (x ⊕ y) ∷ ws) (sym (xor_lists-none xs)))
xor_lists-step (x ∷ xs) (y ∷ ys) (suc i) in_xs in_ys zs e =
    rw e (ap (λ ws. (x ⊕ y) ∷ ws) (xor_lists-step xs ys i (omega arith) (omega arith) _ refl))

-- what stands past the shorter of the lists changes nothing
pub xor_lists-take : (xs ys : List ℕ) (n : ℕ) → min (length xs) (length ys) ≤ n
    → xor_lists xs (take n ys) ≡ xor_lists xs ys
xor_lists-take [] ys n enough = refl
xor_lists-take (x ∷ xs) [] zero enough = refl
xor_lists-take (x ∷ xs) [] (suc n) enough = refl
xor_lists-take (x ∷ xs) (y ∷ ys) zero enough = absurd (omega arith)
xor_lists-take (x ∷ xs) (y ∷ ys) (suc n) enough =
    ap (λ zs. (x ⊕ y) ∷ zs) (xor_lists-take xs ys n (omega arith))

pub ruleset xors = (xor_lists-none, xor_lists-take)
