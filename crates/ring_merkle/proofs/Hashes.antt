-- SPDX-License-Identifier: ISC
-- Lists of hashes, each as long as a digest.
use Rattle.std.proofs.lemmas.List.Elements.{All-append, All-cons, All-map, All-nil, All-tail}
use Rattle.std.proofs.Common.{◌≡◌, ◌/◌, ◌^◌, ◌<◌, ◌≤◌, [], ◌∷◌, ℕ, zero, suc, List, length}
use Rattle.std.proofs.Common.{All, map, arith}
use Rattle.ring_merkle.specs.Inclusion.{path_at}
use Rattle.ring_merkle.specs.Tree.{leaf_hash, sha256}
use Rattle.ring_merkle.proofs.Pairs.{beside, length-pair_up, pair_up, path-up}
use Rattle.ring_merkle.proofs.Trees.{pow-sum}

abbrev pub IsHash : List ℕ → Type 0
IsHash x = length x ≡ 32

abbrev pub AreHashes : List (List ℕ) → Type 0
AreHashes xs = All IsHash xs

-- what SHA-256 gives is a hash
abbrev pub Sized : Type 0
Sized = (m : List ℕ) → IsHash (sha256 m)

hashes-beside : (m : ℕ) (xs : List (List ℕ)) → AreHashes xs → AreHashes (beside m xs)
unfolding beside
hashes-beside m [] h = h
hashes-beside m (x ∷ []) h = All-nil IsHash
hashes-beside zero (x ∷ y ∷ xs) h = All-cons IsHash y [] (h 1 y (omega arith)) (All-nil IsHash)
hashes-beside (suc zero) (x ∷ y ∷ xs) h =
    All-cons IsHash x [] (h 0 x (omega arith)) (All-nil IsHash)
hashes-beside (suc (suc m)) (x ∷ y ∷ xs) h =
    hashes-beside m xs (All-tail IsHash y xs (All-tail IsHash x (y ∷ xs) h))

module _ (sized : Sized) where
  pub hashes-leaves : (ds : List (List ℕ)) → AreHashes (map leaf_hash ds)
  hashes-leaves ds = All-map IsHash leaf_hash ds (λ k d lt. sized _)

  pub hashes-up : (xs : List (List ℕ)) → AreHashes xs → AreHashes (pair_up xs)
  unfolding pair_up
  hashes-up [] h = h
  hashes-up (x ∷ []) h = h
  hashes-up (x ∷ y ∷ xs) h =
      All-cons IsHash _ (pair_up xs) (sized _)
      (hashes-up xs (All-tail IsHash y xs (All-tail IsHash x (y ∷ xs) h)))

  pub hashes-path : (h m : ℕ) (xs : List (List ℕ)) → m < length xs → length xs ≤ 2 ^ h
      → AreHashes xs → AreHashes (path_at h m xs)
  unfolding path_at
  hashes-path zero m xs lt le a = All-nil IsHash
  hashes-path (suc h) m xs lt le a =
      let up = length-pair_up xs in
      rw (path-up h m xs lt le)
      (All-append IsHash (beside m xs) (path_at h (m / 2) (pair_up xs)) (hashes-beside m xs a)
      (hashes-path h (m / 2) (pair_up xs) (omega arith) (omega (arith, pow-sum h))
      (hashes-up xs a)))
