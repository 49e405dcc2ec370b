-- SPDX-License-Identifier: ISC
-- What calls give: each clause stands here once for the plain form of a call and the counted one.
use Rattle.std.specs.Prelude.{◌≡◌, ◌↔◌, ◌<◌, ◌≤◌, ◌++◌, ℕ, Bool, IsTrue, List, length, drop}
use Rattle.std.specs.Prelude.{Result, IfOk, IsOk, OnErr}
use Rattle.ring_merkle.specs.Consistency.{IsCompleteConsistency, IsConsistent}
use Rattle.ring_merkle.specs.Consistency.{IsSoundConsistency, proof_of}
use Rattle.ring_merkle.specs.Inclusion.{IsCompleteInclusion, IsIncluded, IsSoundInclusion, path_of}

-- the path of the leaf m of n is verified
pub record VerifiesInclusion (hash : List ℕ) (m n : ℕ) (path : List (List ℕ)) (root : List ℕ)
    (yes : Bool) : Type 0 where
  pub exact : IsTrue yes ↔ IsIncluded hash m n path root
  pub sound : IsSoundInclusion (IsTrue yes) hash m n path root
  pub complete : IsCompleteInclusion (IsTrue yes) hash m n path root

-- the proof that m leaves are the beginning of n is verified
pub record VerifiesConsistency (m n : ℕ) (path : List (List ℕ)) (first second : List ℕ)
    (yes : Bool) : Type 0 where
  pub exact : IsTrue yes ↔ IsConsistent m n path first second
  pub sound : IsSoundConsistency (IsTrue yes) m n path first second
  pub complete : IsCompleteConsistency (IsTrue yes) m n path first second

-- the path of the leaf m is written
pub record MakesPath {E : Type 0} (m : ℕ) (leaves old new : List (List ℕ)) (r : Result ℕ E)
    : Type 0 where
  pub ok : IfOk r (λ len. new ≡ path_of m leaves ++ drop len old)
  pub len : IfOk r (λ len. len ≡ length (path_of m leaves))
  pub bound : IfOk r (λ len. len ≤ 64)
  pub refused : IsOk r ↔ ((m < length leaves) × (length (path_of m leaves) ≤ length old))
  pub unchanged : OnErr r (new ≡ old)

-- the proof that m leaves are the beginning is written
pub record MakesProof {E : Type 0} (m : ℕ) (leaves old new : List (List ℕ)) (r : Result ℕ E)
    : Type 0 where
  pub ok : IfOk r (λ len. new ≡ proof_of m leaves ++ drop len old)
  pub len : IfOk r (λ len. len ≡ length (proof_of m leaves))
  pub bound : IfOk r (λ len. len ≤ 65)
  pub refused : IsOk r
      ↔ ((0 < m) × (m < length leaves) × (length (proof_of m leaves) ≤ length old))
  pub unchanged : OnErr r (new ≡ old)
