-- SPDX-License-Identifier: ISC
-- Vectors of four words, and lists of such.
use Rattle.std.proofs.Common.{◌≡◌, ℕ, ◌+◌, ◌*◌, ◌%◌, ◌<◌, ◌≤◌, List, [], ◌∷◌, length, map, refl}
use Rattle.std.proofs.Common.{slice_index, sym, ap, ◌∙◌, add-zero, arith}
use Rattle.std.proofs.lemmas.List.{get_or-map}
use Rattle.std.proofs.Math.Facts.{Fits-lt-pow}
use Rattle.std.proofs.Math.ListN.{get_or, length-map}
use Rattle.std.proofs.Math.Nat.{add-mod-mod, mod-add-mod, mod-eq_of_lt, mod-mod}
use Rattle.std.specs.Simd.Lanes.{Each1, zip2}
use Rattle.ring_core.specs.Prelude.{four, low_32, sixteen}
use mir.Syntax.{w32}
use mir.Val.{Fits}

-- the numbers of a list of four
pub four_read : (x : List ℕ) → length x ≡ 4
    → x ≡ slice_index x 0 ∷ slice_index x 1 ∷ slice_index x 2 ∷ slice_index x 3 ∷ []
four_read (a ∷ b ∷ c ∷ d ∷ []) len = refl
four_read _ len = absurd (omega arith)

-- lanes of 32 bits as the words that they hold
pub low-lanes : (x : List ℕ) → Each1 (Fits w32) x → map low_32 x ≡ x
low-lanes [] fits = refl
low-lanes (x ∷ xs) fits =
    λ i. mod-eq_of_lt {n = x} (Fits-lt-pow fits.0) i ∷ low-lanes xs fits.1 i

-- numbers added, of which only the last bits count
pub plus-words : (n : ℕ) (x y : List ℕ)
    → map (λ a. a % n) (zip2 (λ a b. (a + b) % n) x y)
    ≡ zip2 (λ a b. (a + b) % n) (map (λ a. a % n) x) (map (λ a. a % n) y)
plus-words n [] ys = refl
plus-words n (x ∷ xs) [] = refl
plus-words n (x ∷ xs) (y ∷ ys) =
    let e : (x + y) % n % n ≡ (x % n + y % n) % n = simp (mod-mod, add-mod-mod, mod-add-mod) refl in
    λ i. e i ∷ plus-words n xs ys i

-- nothing added
pub plus-none : (n a : ℕ) → (a % n + 0) % n ≡ a % n
plus-none n a = rw add-zero (mod-mod a n)

-- a four of words that are the same
pub four-same : {v w : ℕ → ℕ} (g : ℕ) → ((t : ℕ) → 4 * g ≤ t → t < 4 * g + 4 → v t ≡ w t)
    → four v g ≡ four w g
four-same g same =
    λ i. same (4 * g) (omega arith) (omega arith) i
    ∷ same (4 * g + 1) (omega arith) (omega arith) i
    ∷ same (4 * g + 2) (omega arith) (omega arith) i
    ∷ same (4 * g + 3) (omega arith) (omega arith) i ∷ []

-- the number of a four's first word
pub four_more : (g k : ℕ) → 4 * (g + k) ≡ 4 * g + 4 * k
four_more g k = omega arith

-- the items of a sixteen
pub in_sixteen : {X : Type 0} (w : ℕ → ℕ) (f : X → List ℕ) (g : ℕ) (xs : List X)
    → map f xs ≡ sixteen w g → (j : ℕ) (x : X) → j < 4
    → f (get_or xs j x) ≡ get_or (sixteen w g) j []
in_sixteen w f g xs are j x below =
    let len = sym (length-map xs f) ∙ ap length are in
    cc (get_or-map f xs j x [] (omega (arith, len)), are)
