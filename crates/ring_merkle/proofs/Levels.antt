-- SPDX-License-Identifier: ISC
-- The node m of a level, the nodes before it and those after it, and the level above.
use Rattle.std.proofs.Common.{◌≡◌, ◌/◌, ◌%◌, [], ◌∷◌, ◌++◌, ℕ, List, length, refl, ap}
use Rattle.std.proofs.Common.{arith}
use Rattle.ring_merkle.specs.Stack.{halves, last}
use Rattle.ring_merkle.specs.Tree.{node_hash}
use Rattle.ring_merkle.proofs.Pairs.{beside, pair_up}

pub length-halves : (xs : List (List ℕ)) → length (halves xs) ≡ length xs / 2
length-halves [] = refl
length-halves (x ∷ []) = refl
length-halves (x ∷ y ∷ xs) = omega (arith, length-halves xs)

-- an even number of nodes before it
pub pair-even : (xs zs : List (List ℕ)) → length xs % 2 ≡ 0
    → pair_up (xs ++ zs) ≡ halves xs ++ pair_up zs
unfolding pair_up
pair-even [] zs even = refl
pair-even (x ∷ []) zs even = absurd (omega arith)
pair-even (x ∷ y ∷ xs) zs even = ap (λ ws. node_hash x y ∷ ws) (pair-even xs zs (omega arith))

pub beside-even : (xs zs : List (List ℕ)) → length xs % 2 ≡ 0
    → beside (length xs) (xs ++ zs) ≡ beside 0 zs
unfolding beside
beside-even [] zs even = refl
beside-even (x ∷ []) zs even = absurd (omega arith)
beside-even (x ∷ y ∷ xs) zs even = beside-even xs zs (omega arith)

-- an odd number of them
pub pair-odd : (xs zs : List (List ℕ)) (z : List ℕ) → length xs % 2 ≡ 1
    → pair_up (xs ++ z ∷ zs) ≡ halves xs ++ node_hash (last xs) z ∷ pair_up zs
unfolding pair_up
pair-odd [] zs z odd = absurd (omega arith)
pair-odd (x ∷ []) zs z odd = refl
pair-odd (x ∷ y ∷ []) zs z odd = absurd (omega arith)
pair-odd (x ∷ y ∷ w ∷ xs) zs z odd =
    ap (λ vs. node_hash x y ∷ vs) (pair-odd (w ∷ xs) zs z (omega arith))

pub beside-odd : (xs zs : List (List ℕ)) (z : List ℕ) → length xs % 2 ≡ 1
    → beside (length xs) (xs ++ z ∷ zs) ≡ last xs ∷ []
unfolding beside
beside-odd [] zs z odd = absurd (omega arith)
beside-odd (x ∷ []) zs z odd = refl
beside-odd (x ∷ y ∷ []) zs z odd = absurd (omega arith)
beside-odd (x ∷ y ∷ w ∷ xs) zs z odd = beside-odd (w ∷ xs) zs z (omega arith)
