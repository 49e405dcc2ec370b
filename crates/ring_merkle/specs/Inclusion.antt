-- SPDX-License-Identifier: ISC
-- Inclusion proofs (RFC 9162, section 2.1.3).
use Rattle.std.specs.Prelude.{◌≡◌, ◌⊎◌, ◌-◌, ◌^◌, ◌<◌, [], ◌∷◌, ◌++◌, ℕ, zero, suc, cond, nat_le}
use Rattle.std.specs.Prelude.{nat_lt, List, length, drop, take, get_or, map, Some}
use Rattle.ring_merkle.specs.Tree.{leaf_hash, mth, root_at, root_of}
use Rattle.ring_merkle.specs.Walk.{IsCollision, walk, walk_inputs, whole_step}

-- PATH(m, D_n) over leaf hashes, of which there are at most 2^h (section 2.1.3.1)
unfoldable pub path_at : (h m : ℕ) → (leaves : List (List ℕ)) → List (List ℕ)
path_at zero m xs = []
path_at (suc h) m xs =
    cond (nat_le (length xs) (2 ^ h))
    (path_at h m xs)
    (cond (nat_lt m (2 ^ h))
    (path_at h m (take (2 ^ h) xs) ++ root_at h (drop (2 ^ h) xs) ∷ [])
    (path_at h (m - 2 ^ h) (drop (2 ^ h) xs) ++ root_at h (take (2 ^ h) xs) ∷ []))

-- PATH(m, D_n) over leaf hashes
unfoldable pub path_of : (m : ℕ) → (leaves : List (List ℕ)) → List (List ℕ)
path_of m xs = path_at (length xs) m xs

-- the path proves that the hash is that of the leaf m of n (section 2.1.3.2): step 1, steps 2 to 4,
-- and step 5
pub record IsIncluded (hash : List ℕ) (m n : ℕ) (path : List (List ℕ)) (root : List ℕ)
    : Type 0 where
  pub within : m < n
  pub leads : walk whole_step m (n - 1) hash path ≡ Some root

-- the inputs that are hashed where a path of the leaf m of n is verified
abbrev pub inclusion_inputs : (hash : List ℕ) → (m n : ℕ) → (path : List (List ℕ))
    → List (List ℕ)
inclusion_inputs r m n ps = walk_inputs m (n - 1) r ps

-- soundness: where the root is that of n entries, an accepted hash and path are those of the entry
-- m, or there is a collision between the verification of this path and that of the entry's own
abbrev pub IsSoundInclusion : (accepted : Type 0) → (hash : List ℕ) → (m n : ℕ)
    → (path : List (List ℕ)) → (root : List ℕ) → Type 0
IsSoundInclusion accepted hash m n path root =
    (ds : List (List ℕ)) → length ds ≡ n → root ≡ mth ds → accepted
    → ((hash ≡ leaf_hash (get_or ds m [])) × (path ≡ path_of m (map leaf_hash ds)))
    ⊎ IsCollision (inclusion_inputs hash m n path)
    (inclusion_inputs (leaf_hash (get_or ds m [])) m n (path_of m (map leaf_hash ds)))

-- completeness: the path of a leaf is accepted
abbrev pub IsCompleteInclusion : (accepted : Type 0) → (hash : List ℕ) → (m n : ℕ)
    → (path : List (List ℕ)) → (root : List ℕ) → Type 0
IsCompleteInclusion accepted hash m n path root =
    (leaves : List (List ℕ)) → length leaves ≡ n → root ≡ root_of leaves → m < n
    → hash ≡ get_or leaves m [] → path ≡ path_of m leaves → accepted
