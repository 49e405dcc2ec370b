-- SPDX-License-Identifier: ISC
-- The chunks of a list, and how the words after them follow the list as it grows.
use Rattle.std.proofs.Common.{◌≡◌, ℕ, zero, suc, ◌+◌, ◌*◌, ◌/◌, ◌<◌, ◌≤◌, List, ◌∷◌, ◌++◌, length}
use Rattle.std.proofs.Common.{take, drop, refl, arith, length-drop, add-zero, add-one}
use Rattle.std.proofs.lemmas.List.{take-append-le, drop-append-le, drop_at, drop-drop}
use Rattle.std.proofs.Math.Nat.{add-div_right}
use Rattle.std.specs.Simd.{first_chunks}
use Rattle.ring_core.specs.Prelude.{chunk_at, fold_chunks}

-- no chunk
pub fold_chunks-none : (step : List ℕ → List ℕ → List ℕ) (n : ℕ) (h p : List ℕ)
    → fold_chunks step n h p 0 ≡ h
unfolding fold_chunks
fold_chunks-none step n h p = refl

-- one chunk more
pub fold_chunks-next : (step : List ℕ → List ℕ → List ℕ) (n : ℕ) (h p : List ℕ) (k : ℕ)
    → fold_chunks step n h p (k + 1) ≡ step (fold_chunks step n h p k) (chunk_at n p k)
unfolding fold_chunks
fold_chunks-next step n h p k = rw add-one refl

pub ruleset folds = (fold_chunks-none)

-- only the chunks that are counted matter
pub fold_chunks-append : (step : List ℕ → List ℕ → List ℕ) (n : ℕ) (h p x : List ℕ) (k : ℕ)
    → k * n ≤ length p
    → fold_chunks step n h (p ++ x) k ≡ fold_chunks step n h p k
unfolding fold_chunks
fold_chunks-append step n h p x zero fits = refl
fold_chunks-append step n h p x (suc k) fits =
    let e : suc k * n ≡ k * n + n = grind arith in
    let whole : n ≤ length (drop (k * n) p) = omega (arith, length-drop (k * n) p) in
    let chunk : take n (drop (k * n) (p ++ x)) ≡ take n (drop (k * n) p) =
    rw (drop-append-le (k * n) p x (omega arith)) (take-append-le n (drop (k * n) p) x whole) in
    rw (chunk, fold_chunks-append step n h p x k (omega arith)) refl

-- the chunks of one list and then those of another are the chunks of both
pub fold_chunks-then : (step : List ℕ → List ℕ → List ℕ) (n : ℕ) (h p x : List ℕ) (j k : ℕ)
    → length p ≡ j * n
    → fold_chunks step n h (p ++ x) (j + k) ≡ fold_chunks step n (fold_chunks step n h p j) x k
unfolding fold_chunks
fold_chunks-then step n h p x j zero len =
    rw add-zero (fold_chunks-append step n h p x j (omega arith))
fold_chunks-then step n h p x j (suc k) len =
    let e : j + suc k ≡ suc (j + k) = omega arith in
    let at : (j + k) * n ≡ j * n + k * n = grind arith in
    let tail : drop ((j + k) * n) (p ++ x) ≡ drop (k * n) x =
    rw (at, ← drop-drop (k * n) (j * n) (p ++ x), drop_at p x (j * n) len) refl in
    rw (e, fold_chunks-then step n h p x j k len) (rw tail refl)

-- the number of words stays
pub length-fold_chunks : (step : List ℕ → List ℕ → List ℕ) (n w k : ℕ) (h p : List ℕ)
    → ((x y : List ℕ) → length x ≡ w → length (step x y) ≡ w) → length h ≡ w
    → length (fold_chunks step n h p k) ≡ w
unfolding fold_chunks
length-fold_chunks step n w zero h p keeps len = len
length-fold_chunks step n w (suc k) h p keeps len =
    keeps _ _ (length-fold_chunks step n w k h p keeps len)

-- the chunks of a list, one and then the others
pub chunks_step : {X : Type 0} (n : ℕ) (all : List X) → 0 < n → n ≤ length all
    → first_chunks n (length all / n) all
    ≡ take n all ∷ first_chunks n (length (drop n all) / n) (drop n all)
chunks_step n all pos room =
    let left = length (drop n all) in
    let more : length all / n ≡ suc (left / n) =
    grind (arith, length-drop n all, add-div_right left pos) in
    rw more refl
