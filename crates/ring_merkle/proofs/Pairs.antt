-- SPDX-License-Identifier: ISC
-- Trees level by level: the tree hash over leaves is the tree hash over each two of them, and a
-- path is the sibling of its leaf, if there is one, and the path of the node above both.
use Rattle.std.proofs.lemmas.Bool.{cases_lt}
use Rattle.std.proofs.Common.{◌≡◌, ◌+◌, ◌-◌, ◌/◌, ◌^◌, ◌<◌, ◌≤◌, [], ◌∷◌, ◌++◌, ◌∙◌, ℕ, zero, suc}
use Rattle.std.proofs.Common.{List, length, take, drop, refl, ap, sym, arith, ⊎_elim, append_assoc}
use Rattle.std.proofs.Common.{length-drop, length-take, min}
use Rattle.ring_merkle.specs.Inclusion.{path_at}
use Rattle.ring_merkle.specs.Tree.{node_hash, root_at}
use Rattle.ring_merkle.proofs.Trees.{path-left, path-low, path-right, pow-sum, root-high, root-low}

-- the nodes one level up: a last one with no sibling stays as it is
unfoldable pub pair_up : List (List ℕ) → List (List ℕ)
pair_up [] = []
pair_up (x ∷ []) = x ∷ []
pair_up (x ∷ y ∷ xs) = node_hash x y ∷ pair_up xs

-- the sibling of the node m, if there is one
unfoldable pub beside : (m : ℕ) → List (List ℕ) → List (List ℕ)
beside m [] = []
beside m (x ∷ []) = []
beside zero (x ∷ y ∷ xs) = y ∷ []
beside (suc zero) (x ∷ y ∷ xs) = x ∷ []
beside (suc (suc m)) (x ∷ y ∷ xs) = beside m xs

pub length-pair_up : (xs : List (List ℕ)) → length (pair_up xs) ≡ (length xs + 1) / 2
unfolding pair_up
length-pair_up [] = refl
length-pair_up (x ∷ []) = refl
length-pair_up (x ∷ y ∷ xs) = omega (arith, length-pair_up xs)

twice : (k i : ℕ) → ℕ
twice zero i = i
twice (suc k) i = suc (suc (twice k i))

twice-is : (k i : ℕ) → twice k i ≡ k + k + i
unfolding twice
twice-is zero i = omega arith
twice-is (suc k) i = omega (arith, twice-is k i)

take-twice : (k : ℕ) (xs : List (List ℕ)) → pair_up (take (twice k 0) xs) ≡ take k (pair_up xs)
unfolding pair_up twice
take-twice zero xs = refl
take-twice (suc zero) [] = refl
take-twice (suc (suc k)) [] = refl
take-twice (suc zero) (x ∷ []) = refl
take-twice (suc (suc k)) (x ∷ []) = refl
take-twice (suc k) (x ∷ y ∷ xs) = ap (λ zs. node_hash x y ∷ zs) (take-twice k xs)

drop-twice : (k : ℕ) (xs : List (List ℕ)) → pair_up (drop (twice k 0) xs) ≡ drop k (pair_up xs)
unfolding pair_up twice
drop-twice zero xs = refl
drop-twice (suc k) [] = refl
drop-twice (suc zero) (x ∷ []) = refl
drop-twice (suc (suc k)) (x ∷ []) = refl
drop-twice (suc k) (x ∷ y ∷ xs) = drop-twice k xs

beside-take : (k m : ℕ) (xs : List (List ℕ)) → m < k + k
    → beside m (take (twice k 0) xs) ≡ beside m xs
unfolding beside twice
beside-take zero m xs lt = absurd (omega arith)
beside-take (suc k) m [] lt = refl
beside-take (suc k) m (x ∷ []) lt = refl
beside-take (suc k) zero (x ∷ y ∷ xs) lt = refl
beside-take (suc k) (suc zero) (x ∷ y ∷ xs) lt = refl
beside-take (suc k) (suc (suc m)) (x ∷ y ∷ xs) lt = beside-take k m xs (omega arith)

beside-drop : (k i : ℕ) (xs : List (List ℕ))
    → beside (twice k i) xs ≡ beside i (drop (twice k 0) xs)
unfolding beside twice
beside-drop zero i xs = refl
beside-drop (suc k) i [] = refl
beside-drop (suc k) i (x ∷ []) = refl
beside-drop (suc k) i (x ∷ y ∷ xs) = beside-drop k i xs

-- a split of the leaves at an even place is one of the nodes above
module _ (k n : ℕ) (even : n ≡ k + k) where
  is-twice : n ≡ twice k 0
  is-twice = omega (arith, twice-is k 0)

  pub take-up : (xs : List (List ℕ)) → pair_up (take n xs) ≡ take k (pair_up xs)
  take-up xs = ap (λ j. pair_up (take j xs)) is-twice ∙ take-twice k xs

  drop-up : (xs : List (List ℕ)) → pair_up (drop n xs) ≡ drop k (pair_up xs)
  drop-up xs = ap (λ j. pair_up (drop j xs)) is-twice ∙ drop-twice k xs

  beside-left : (m : ℕ) (xs : List (List ℕ)) → m < n → beside m (take n xs) ≡ beside m xs
  beside-left m xs lt =
      ap (λ j. beside m (take j xs)) is-twice ∙ beside-take k m xs (omega arith)

  beside-right : (m : ℕ) (xs : List (List ℕ)) → n ≤ m → beside m xs ≡ beside (m - n) (drop n xs)
  beside-right m xs le =
      let at : m ≡ twice k (m - n) = omega (arith, twice-is k (m - n)) in
      ap (λ j. beside j xs) at ∙ beside-drop k (m - n) xs
      ∙ sym (ap (λ j. beside (m - n) (drop j xs)) is-twice)

-- a split of the leaves, and that of the nodes above
pub record Split (h : ℕ) (xs : List (List ℕ)) : Type 0 where
  pub half : 2 ^ suc h ≡ 2 ^ h + 2 ^ h
  pub all : 2 ^ suc (suc h) ≡ 2 ^ suc h + 2 ^ suc h
  pub up : length (pair_up xs) ≡ (length xs + 1) / 2
  pub front-length : length (take (2 ^ suc h) xs) ≡ min (2 ^ suc h) (length xs)
  pub back-length : length (drop (2 ^ suc h) xs) ≡ length xs - 2 ^ suc h
  pub front : pair_up (take (2 ^ suc h) xs) ≡ take (2 ^ h) (pair_up xs)
  pub back : pair_up (drop (2 ^ suc h) xs) ≡ drop (2 ^ h) (pair_up xs)

pub split : (h : ℕ) (xs : List (List ℕ)) → Split h xs
split h xs = record {
  half = pow-sum h;
  all = pow-sum (suc h);
  up = length-pair_up xs;
  front-length = length-take (2 ^ suc h) xs;
  back-length = length-drop (2 ^ suc h) xs;
  front = take-up (2 ^ h) (2 ^ suc h) (pow-sum h) xs;
  back = drop-up (2 ^ h) (2 ^ suc h) (pow-sum h) xs;
}

pub root-up : (h : ℕ) (xs : List (List ℕ)) → length xs ≤ 2 ^ suc h
    → root_at (suc h) xs ≡ root_at h (pair_up xs)
unfolding root_at pair_up
root-up zero [] le = refl
root-up zero (x ∷ []) le = refl
root-up zero (x ∷ y ∷ []) le = refl
root-up zero (x ∷ y ∷ z ∷ xs) le = absurd (omega arith)
root-up (suc h) xs le =
    let n = 2 ^ suc h in
    let s = split h xs in
    ⊎_elim
    (λ lt.
    let a = root-high (suc h) xs lt in
    let b = root-up h (take n xs) (omega arith) in
    let c = root-up h (drop n xs) (omega arith) in
    let d = root-high h (pair_up xs) (omega arith) in
    cc)
    (λ low. root-low (suc h) xs low ∙ root-up h xs low
    ∙ sym (root-low h (pair_up xs) (omega arith)))
    (cases_lt n (length xs))

pub path-up : (h m : ℕ) (xs : List (List ℕ)) → m < length xs → length xs ≤ 2 ^ suc h
    → path_at (suc h) m xs ≡ beside m xs ++ path_at h (m / 2) (pair_up xs)
unfolding path_at root_at pair_up beside
path-up zero m [] lt le = absurd (omega arith)
path-up zero zero (x ∷ []) lt le = refl
path-up zero zero (x ∷ y ∷ []) lt le = refl
path-up zero (suc zero) (x ∷ y ∷ []) lt le = refl
path-up zero (suc zero) (x ∷ []) lt le = absurd (omega arith)
path-up zero (suc (suc m)) (x ∷ []) lt le = absurd (omega arith)
path-up zero (suc (suc m)) (x ∷ y ∷ []) lt le = absurd (omega arith)
path-up zero m (x ∷ y ∷ z ∷ xs) lt le = absurd (omega arith)
path-up (suc h) m xs lt le =
    let n = 2 ^ suc h in
    let front = take n xs in
    let back = drop n xs in
    let s = split h xs in
    ⊎_elim
    (λ high. ⊎_elim
    (λ left.
    let a = path-left (suc h) xs m high left in
    let b = path-up h m front (omega arith) (omega arith) in
    let c = root-up h back (omega arith) in
    let d = path-left h (pair_up xs) (m / 2) (omega arith) (omega arith) in
    let g = beside-left (2 ^ h) n s.half m xs left in
    let i = append_assoc (beside m xs) (path_at h (m / 2) (take (2 ^ h) (pair_up xs)))
    (root_at h (drop (2 ^ h) (pair_up xs)) ∷ []) in
    cc)
    (λ right.
    let a = path-right (suc h) xs m high right in
    let b = path-up h (m - n) back (omega arith) (omega arith) in
    let c = root-up h front (omega arith) in
    let d = path-right h (pair_up xs) (m / 2) (omega arith) (omega arith) in
    let g = beside-right (2 ^ h) n s.half m xs right in
    let k : (m - n) / 2 ≡ m / 2 - 2 ^ h = omega arith in
    let i = append_assoc (beside m xs)
    (path_at h (m / 2 - 2 ^ h) (drop (2 ^ h) (pair_up xs)))
    (root_at h (take (2 ^ h) (pair_up xs)) ∷ []) in
    cc)
    (cases_lt m n))
    (λ low. path-low (suc h) xs m low ∙ path-up h m xs lt low
    ∙ ap (λ ps. beside m xs ++ ps) (sym (path-low h (pair_up xs) (m / 2) (omega arith))))
    (cases_lt n (length xs))
