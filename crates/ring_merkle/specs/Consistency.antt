-- SPDX-License-Identifier: ISC
-- Consistency proofs (RFC 9162, section 2.1.4).
use Rattle.std.specs.Prelude.{◌≡◌, ◌⊎◌, ◌-◌, ◌<◌, ◌==◌, [], ◌∷◌, ◌++◌, ◌^◌, ℕ, zero, suc, cond}
use Rattle.std.specs.Prelude.{Bool, true, false, List, length, drop, get_or, map, Some, nat_le}
use Rattle.std.specs.Prelude.{take}
use Rattle.std.specs.Int.{is_power_of_two}
use Rattle.ring_merkle.specs.Tree.{leaf_hash, mth, root_at, root_of}
use Rattle.ring_merkle.specs.Walk.{IsCollision, front_step, is_even, shifted_last, shifted_node}
use Rattle.ring_merkle.specs.Walk.{walk, walk_inputs, whole_step}

-- SUBPROOF(m, D_n, b) over leaf hashes, of which there are at most 2^h (section 2.1.4.1)
unfoldable pub subproof_at : (h m : ℕ) → (leaves : List (List ℕ)) → Bool → List (List ℕ)
subproof_at zero m xs b = cond b [] (root_at zero xs ∷ [])
subproof_at (suc h) m xs b =
    cond (m == length xs)
    (cond b [] (root_at (suc h) xs ∷ []))
    (cond (nat_le (length xs) (2 ^ h))
    (subproof_at h m xs b)
    (cond (nat_le m (2 ^ h))
    (subproof_at h m (take (2 ^ h) xs) b ++ root_at h (drop (2 ^ h) xs) ∷ [])
    (subproof_at h (m - 2 ^ h) (drop (2 ^ h) xs) false
    ++ root_at h (take (2 ^ h) xs) ∷ [])))

-- SUBPROOF(m, D_n, b) over leaf hashes
unfoldable pub subproof_of : (m : ℕ) → (leaves : List (List ℕ)) → Bool → List (List ℕ)
subproof_of m xs b = subproof_at (length xs) m xs b

-- PROOF(m, D_n) over leaf hashes
abbrev pub proof_of : (m : ℕ) → (leaves : List (List ℕ)) → List (List ℕ)
proof_of m xs = subproof_of m xs true

-- fn and sn where the steps begin (section 2.1.4.2, steps 3 and 4)
abbrev pub first_node : (m : ℕ) → ℕ
first_node m = shifted_node is_even 64 (m - 1)

abbrev pub first_last : (m n : ℕ) → ℕ
first_last m n = shifted_last is_even 64 (m - 1) (n - 1)

-- the values of a path: where m is an exact power of 2, the first root comes before them (step 2)
abbrev pub values_of : (m : ℕ) → (first : List ℕ) → (path : List (List ℕ)) → List (List ℕ)
values_of m first path = cond (is_power_of_two m) (first ∷ path) path

-- from a hash at a node a path leads to both roots (steps 5 to 7)
pub record LeadsToBoth (fn sn : ℕ) (hash : List ℕ) (path : List (List ℕ)) (first second : List ℕ)
    : Type 0 where
  pub front : walk front_step fn sn hash path ≡ Some first
  pub whole : walk whole_step fn sn hash path ≡ Some second

-- the path proves that the tree of m leaves is the beginning of the tree of n (section 2.1.4.2),
-- where 0 < m < n: step 1, and from the first value the others lead to both roots
pub record IsConsistent (m n : ℕ) (path : List (List ℕ)) (first second : List ℕ) : Type 0 where
  pub nonempty : 0 < m
  pub within : m < n
  pub some : 0 < length path
  pub leads : LeadsToBoth (first_node m) (first_last m n) (get_or (values_of m first path) 0 [])
      (drop 1 (values_of m first path)) first second

-- the inputs that are hashed on the way from the first of these values to the larger tree's root
abbrev pub consistency_inputs : (m n : ℕ) → (values : List (List ℕ)) → List (List ℕ)
consistency_inputs m n values =
    walk_inputs (first_node m) (first_last m n) (get_or values 0 []) (drop 1 values)

-- soundness: where the second root is that of n entries, an accepted first root is that of the
-- first m of them, or there is a collision between this verification and that of the list's own
-- proof
abbrev pub IsSoundConsistency : (accepted : Type 0) → (m n : ℕ) → (path : List (List ℕ))
    → (first second : List ℕ) → Type 0
IsSoundConsistency accepted m n path first second =
    (ds : List (List ℕ)) → length ds ≡ n → second ≡ mth ds → accepted
    → (first ≡ mth (take m ds))
    ⊎ IsCollision (consistency_inputs m n (values_of m first path))
    (consistency_inputs m n (subproof_of m (map leaf_hash ds) false))

-- completeness: the proof for a list and its beginning is accepted
abbrev pub IsCompleteConsistency : (accepted : Type 0) → (m n : ℕ) → (path : List (List ℕ))
    → (first second : List ℕ) → Type 0
IsCompleteConsistency accepted m n path first second =
    (leaves : List (List ℕ)) → length leaves ≡ n → second ≡ root_of leaves → 0 < m → m < n
    → first ≡ root_of (take m leaves) → path ≡ proof_of m leaves → accepted
