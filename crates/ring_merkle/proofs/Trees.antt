-- SPDX-License-Identifier: ISC
-- Tree hashes, paths and proofs by the cases of their definitions.
use Rattle.std.proofs.lemmas.Bool.{cases_lt, eq-eqb}
use Rattle.std.proofs.lemmas.Bool.Decides.{nat_tests}
use Rattle.std.proofs.Math.Nat.{add-suc, add-zero, pow-suc}
use Rattle.std.proofs.Math.Pow.{pow_mono}
use Rattle.std.proofs.Common.{◌≡◌, ◌+◌, ◌-◌, ◌^◌, ◌<◌, ◌≤◌, [], ◌∷◌, ◌++◌, ◌∙◌, ℕ, zero, suc, Bool}
use Rattle.std.proofs.Common.{cond, false, List, length, take, drop, refl, ap, sym, arith, ⊎_elim}
use Rattle.std.proofs.Common.{length-drop, length-take}
use Rattle.std.specs.Int.{IsPowerOfTwo}
use Rattle.ring_merkle.specs.Consistency.{subproof_at, subproof_of}
use Rattle.ring_merkle.specs.Inclusion.{path_at, path_of}
use Rattle.ring_merkle.specs.Tree.{node_hash, root_at, root_of}

pub pow-sum : (h : ℕ) → 2 ^ (suc h) ≡ 2 ^ h + 2 ^ h
pow-sum h = omega (arith, pow-suc 2 h)

pub below-pow : (n : ℕ) → n < 2 ^ n
below-pow zero = omega arith
below-pow (suc n) = omega (arith, below-pow n, pow-sum n)

-- where the leaves are within the lower half, and where they are not
module _ (h : ℕ) (xs : List (List ℕ)) where
  pub root-low : length xs ≤ 2 ^ h → root_at (suc h) xs ≡ root_at h xs
  unfolding root_at
  root-low le = grind (arith, nat_tests)

  pub root-high : 2 ^ h < length xs → root_at (suc h) xs
      ≡ node_hash (root_at h (take (2 ^ h) xs)) (root_at h (drop (2 ^ h) xs))
  unfolding root_at
  root-high lt = grind (arith, nat_tests)

  pub path-low : (m : ℕ) → length xs ≤ 2 ^ h → path_at (suc h) m xs ≡ path_at h m xs
  unfolding path_at
  path-low m le = grind (arith, nat_tests)

  pub path-left : (m : ℕ) → 2 ^ h < length xs → m < 2 ^ h
      → path_at (suc h) m xs
      ≡ path_at h m (take (2 ^ h) xs) ++ root_at h (drop (2 ^ h) xs) ∷ []
  unfolding path_at
  path-left m lt left = grind (arith, nat_tests)

  pub path-right : (m : ℕ) → 2 ^ h < length xs → 2 ^ h ≤ m
      → path_at (suc h) m xs
      ≡ path_at h (m - 2 ^ h) (drop (2 ^ h) xs) ++ root_at h (take (2 ^ h) xs) ∷ []
  unfolding path_at
  path-right m lt right = grind (arith, nat_tests)

  pub sub-low : (m : ℕ) (b : Bool) → m < length xs → length xs ≤ 2 ^ h
      → subproof_at (suc h) m xs b ≡ subproof_at h m xs b
  unfolding subproof_at
  sub-low m b lt le = grind (arith, nat_tests)

  pub sub-left : (m : ℕ) (b : Bool) → m < length xs → 2 ^ h < length xs → m ≤ 2 ^ h
      → subproof_at (suc h) m xs b
      ≡ subproof_at h m (take (2 ^ h) xs) b ++ root_at h (drop (2 ^ h) xs) ∷ []
  unfolding subproof_at
  sub-left m b lt high left = grind (arith, nat_tests)

  pub sub-right : (m : ℕ) (b : Bool) → m < length xs → 2 ^ h < m → subproof_at (suc h) m xs b
      ≡ subproof_at h (m - 2 ^ h) (drop (2 ^ h) xs) false ++ root_at h (take (2 ^ h) xs) ∷ []
  unfolding subproof_at
  sub-right m b lt right = grind (arith, nat_tests)

pub sub-whole : (h m : ℕ) (xs : List (List ℕ)) (b : Bool) → m ≡ length xs
    → subproof_at h m xs b ≡ cond b [] (root_at h xs ∷ [])
unfolding subproof_at
sub-whole zero m xs b e = refl
sub-whole (suc h) m xs b e = rw (eq-eqb m (length xs) e)

more : {X : Type 0} (f : ℕ → X) (n : ℕ) → ((h : ℕ) → n ≤ 2 ^ h → f (suc h) ≡ f h)
    → (h k : ℕ) → n ≤ 2 ^ h → f (h + k) ≡ f h
more f n step h zero le = ap f (add-zero h)
more f n step h (suc k) le =
    let up : 2 ^ h ≤ 2 ^ (h + k) = pow_mono (omega arith) in
    ap f (add-suc h k) ∙ step (h + k) (omega arith) ∙ more f n step h k le

-- what is the same at each height that is enough for n is the same at n
at_any : {X : Type 0} (f : ℕ → X) (n : ℕ) → ((h : ℕ) → n ≤ 2 ^ h → f (suc h) ≡ f h)
    → (h : ℕ) → n ≤ 2 ^ h → f h ≡ f n
at_any f n step h le =
    let least : n ≤ 2 ^ n = omega (arith, below-pow n) in
    let swap : h + n ≡ n + h = omega arith in
    sym (more f n step h n le) ∙ ap f swap ∙ more f n step n h least

module _ (h : ℕ) (xs : List (List ℕ)) where
  pub root-any : length xs ≤ 2 ^ h → root_at h xs ≡ root_of xs
  unfolding root_of
  root-any le = at_any (λ k. root_at k xs) (length xs) (λ k. root-low k xs) h le

  pub path-any : (m : ℕ) → length xs ≤ 2 ^ h → path_at h m xs ≡ path_of m xs
  unfolding path_of
  path-any m le = at_any (λ k. path_at k m xs) (length xs) (λ k. path-low k xs m) h le

pub sub-all : (m : ℕ) (xs : List (List ℕ)) (b : Bool) → m ≡ length xs
    → subproof_of m xs b ≡ cond b [] (root_of xs ∷ [])
unfolding subproof_of root_of
sub-all m xs b e = sub-whole (length xs) m xs b e

pub sub-any : (h m : ℕ) (xs : List (List ℕ)) (b : Bool) → m ≤ length xs → length xs ≤ 2 ^ h
    → subproof_at h m xs b ≡ subproof_of m xs b
unfolding subproof_of
sub-any h m xs b le few =
    ⊎_elim
    (λ lt. at_any (λ k. subproof_at k m xs b) (length xs) (λ k. sub-low k xs m b lt) h few)
    (λ ge. let all : m ≡ length xs = omega arith in
    rw (sub-whole h m xs b all, sub-all m xs b all, root-any h xs few))
    (cases_lt m (length xs))

-- a list split at the largest power of two smaller than its length
module _ (s : ℕ) (xs : List (List ℕ)) (p : IsPowerOfTwo s) (lt : s < length xs)
    (le : length xs ≤ s + s) where
  back-root : root_at p.0 (drop s xs) ≡ root_of (drop s xs)
  back-root = root-any p.0 (drop s xs) (omega (arith, p.1, length-drop s xs))

  front-root : root_at p.0 (take s xs) ≡ root_of (take s xs)
  front-root = root-any p.0 (take s xs) (omega (arith, p.1, length-take s xs))

  pub root-split : root_of xs ≡ node_hash (root_of (take s xs)) (root_of (drop s xs))
  root-split =
      let t = p.1 in
      let a = root-any (suc p.0) xs (omega (arith, pow-sum p.0)) in
      let b = root-high p.0 xs (omega arith) in
      let d = front-root in
      let e = back-root in
      cc

  pub path-left-of : (m : ℕ) → m < s
      → path_of m xs ≡ path_of m (take s xs) ++ root_of (drop s xs) ∷ []
  path-left-of m at =
      let t = p.1 in
      let a = path-any (suc p.0) xs m (omega (arith, pow-sum p.0)) in
      let b = path-left p.0 xs m (omega arith) (omega arith) in
      let d = path-any p.0 (take s xs) m (omega (arith, length-take s xs)) in
      let e = back-root in
      cc

  pub path-right-of : (m : ℕ) → s ≤ m
      → path_of m xs ≡ path_of (m - s) (drop s xs) ++ root_of (take s xs) ∷ []
  path-right-of m at =
      let t = p.1 in
      let a = path-any (suc p.0) xs m (omega (arith, pow-sum p.0)) in
      let b = path-right p.0 xs m (omega arith) (omega arith) in
      let d = path-any p.0 (drop s xs) (m - s) (omega (arith, length-drop s xs)) in
      let e = front-root in
      cc

  pub sub-left-of : (m : ℕ) (b : Bool) → m ≤ s
      → subproof_of m xs b ≡ subproof_of m (take s xs) b ++ root_of (drop s xs) ∷ []
  sub-left-of m b at =
      let t = p.1 in
      let front = length-take s xs in
      let a = sub-any (suc p.0) m xs b (omega arith) (omega (arith, pow-sum p.0)) in
      let u = sub-left p.0 xs m b (omega arith) (omega arith) (omega arith) in
      let d = sub-any p.0 m (take s xs) b (omega arith) (omega arith) in
      let e = back-root in
      cc

  pub sub-right-of : (m : ℕ) (b : Bool) → m < length xs → s < m
      → subproof_of m xs b ≡ subproof_of (m - s) (drop s xs) false ++ root_of (take s xs) ∷ []
  sub-right-of m b within at =
      let t = p.1 in
      let back = length-drop s xs in
      let a = sub-any (suc p.0) m xs b (omega arith) (omega (arith, pow-sum p.0)) in
      let u = sub-right p.0 xs m b within (omega arith) in
      let d = sub-any p.0 (m - s) (drop s xs) false (omega arith) (omega arith) in
      let e = front-root in
      cc

-- a list of one leaf has no split
pub path-leaf : (m : ℕ) (xs : List (List ℕ)) → length xs ≤ 1 → path_of m xs ≡ []
unfolding path_at
path-leaf m xs le = sym (path-any zero xs m (omega arith))
