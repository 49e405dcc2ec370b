-- SPDX-License-Identifier: ISC
-- Vectors, lane by lane, and lists of eight words.
use Rattle.std.proofs.Common.{◌≡◌, ◌≢◌, ℕ, zero, suc, ◌*◌, ◌-◌, ◌/◌, ◌%◌, ◌^◌, ◌<◌, ◌≤◌, List, []}
use Rattle.std.proofs.Common.{◌∷◌, slice_set, length, slice_index, map, bit_and, bit_or}
use Rattle.std.proofs.Common.{bit_xor, refl, sym, ◌∙◌, arith, pow_pos}
use Rattle.std.proofs.lemmas.Grind.{common_steps}
use Rattle.std.proofs.lemmas.Nat.{and_mod, shr_le, xor_mod}
use Rattle.std.proofs.Math.Facts.{Fits-lt-pow}
use Rattle.std.proofs.lemmas.Simd.{shifts_fit_splat, zip2_of_maps, zip2_splat}
use Rattle.std.proofs.Math.ListN.{get_or-map, replicate}
use Rattle.std.proofs.Math.Nat.{div-le_self, mod-eq_of_lt}
use Rattle.std.specs.Int.{Width}
use Rattle.std.specs.Simd.Lanes.{Each1, zip2}
use Rattle.ring_core.specs.Prelude.{◌⊕◌, lane, rotr, shr, xor_lists}
use Rattle.ring_core.proofs.Rotation.{or_of_shifts-rotr, rotr-lt}
use mir.Val.{bits, Fits}

-- an operation on two vectors, at any place: past their end both are 0
pub at_zip : (f : ℕ → ℕ → ℕ) (x y : List ℕ) → f 0 0 ≡ 0 → length x ≡ length y → (k : ℕ)
    → slice_index (zip2 f x y) k ≡ f (slice_index x k) (slice_index y k)
at_zip f [] [] none same k = sym none
at_zip f (x ∷ xs) (y ∷ ys) none same zero = refl
at_zip f (x ∷ xs) (y ∷ ys) none same (suc k) = at_zip f xs ys none (omega (arith, same)) k
at_zip f [] (y ∷ ys) none same k = absurd (omega (arith, same))
at_zip f (x ∷ xs) [] none same k = absurd (omega (arith, same))

-- the same of the words in a lane
pub at_and : (w : ℕ) (x y : List ℕ) (k : ℕ) → length x ≡ length y
    → lane w k (zip2 bit_and x y) ≡ bit_and (lane w k x) (lane w k y)
unfolding lane
at_and w x y k same = rw (at_zip bit_and x y refl same k) (and_mod _ _ w)

pub at_xor : (w : ℕ) (x y : List ℕ) (k : ℕ) → length x ≡ length y
    → lane w k (zip2 bit_xor x y) ≡ lane w k x ⊕ lane w k y
unfolding lane
at_xor w x y k same = rw (at_zip bit_xor x y refl same k) (xor_mod _ _ w)

-- what is computed of each number of a vector, at any place: past its end both are 0
at_map : (f : ℕ → ℕ) (x : List ℕ) → f 0 ≡ 0 → (k : ℕ)
    → slice_index (map f x) k ≡ f (slice_index x k)
at_map f x none k = rw none at (get_or-map f x k 0)

-- each number of a vector fits its type, and so does what is read past its end
pub at_fits : (w : Width) (x : List ℕ) → Each1 (Fits w) x → (k : ℕ) → slice_index x k < 2 ^ bits w
at_fits w [] all k = pow_pos (bits w)
at_fits w (x ∷ xs) all zero = Fits-lt-pow all.0
at_fits w (x ∷ xs) all (suc k) = at_fits w xs all.1 k

-- 0 shifted right
pub shr-zero : (n : ℕ) → 0 / 2 ^ n ≡ 0
shr-zero n = omega (arith, div-le_self 0 (2 ^ n))

-- a vector shifted right
abbrev pub shifted_right : (lanes n : ℕ) → List ℕ → List ℕ
shifted_right lanes n x = zip2 (λ a b. a / 2 ^ b) x (replicate lanes n)

-- a vector shifted left, in words of w bits
abbrev pub shifted_left : (w lanes n : ℕ) → List ℕ → List ℕ
shifted_left w lanes n x = zip2 (λ a b. a * 2 ^ b % 2 ^ w) x (replicate lanes n)

pub at_shr : (w : Width) (lanes n : ℕ) (x : List ℕ) → (length x ≡ lanes) × Each1 (Fits w) x
    → (k : ℕ)
    → lane (bits w) k (shifted_right lanes n x) ≡ shr n (lane (bits w) k x)
unfolding lane
at_shr w lanes n x known k =
    let fits = at_fits w x known.1 k in
    rw (
      zip2_splat (λ a b. a / 2 ^ b) x lanes n known.0,
      at_map (λ a. a / 2 ^ n) x (shr-zero n) k,
      mod-eq_of_lt fits,
    ) (mod-eq_of_lt (omega (arith, fits, shr_le (slice_index x k) n)))

-- functions that agree on the numbers of w bits
map-fits : (w : Width) (f g : ℕ → ℕ) (x : List ℕ) → Each1 (Fits w) x
    → ((a : ℕ) → a < 2 ^ bits w → f a ≡ g a) → map f x ≡ map g x
map-fits w f g [] fits same = refl
map-fits w f g (x ∷ xs) fits same =
    λ i. same x (Fits-lt-pow fits.0) i ∷ map-fits w f g xs fits.1 same i

-- two shifts of a vector, or'ed, rotate its words
pub shifts-rotr : (w : Width) (lanes n : ℕ) (x : List ℕ) → n ≤ bits w
    → (length x ≡ lanes) × Each1 (Fits w) x
    → zip2 bit_or (shifted_right lanes n x) (shifted_left (bits w) lanes (bits w - n) x)
    ≡ map (rotr (bits w) n) x
shifts-rotr w lanes n x le (same, fits) =
    let right = zip2_splat (λ a b. a / 2 ^ b) x lanes n same in
    let left = zip2_splat (λ a b. a * 2 ^ b % 2 ^ bits w) x lanes (bits w - n) same in
    zip2_of_maps bit_or _ _ x right left
    ∙ map-fits w _ _ x fits (λ a lt. or_of_shifts-rotr (bits w) a n le lt)

-- a vector rotated right
pub at_rotr : (w : Width) (lanes n : ℕ) (x : List ℕ) → n ≤ bits w
    → (length x ≡ lanes) × Each1 (Fits w) x → (k : ℕ)
    → lane (bits w) k
    (zip2 bit_or (shifted_right lanes n x) (shifted_left (bits w) lanes (bits w - n) x))
    ≡ rotr (bits w) n (lane (bits w) k x)
unfolding lane
at_rotr w lanes n x le known k =
    let fits = at_fits w x known.1 k in
    let low : 0 % 2 ^ n ≡ 0 = mod-eq_of_lt (pow_pos n) in
    let zero : rotr (bits w) n 0 ≡ 0 = rw (shr-zero n, low) (omega arith) in
    rw (shifts-rotr w lanes n x le known, at_map (rotr (bits w) n) x zero k, mod-eq_of_lt fits)
    (mod-eq_of_lt (rotr-lt (bits w) (slice_index x k) n le fits))

-- another number in one lane
pub at_set_same : (w lanes i n : ℕ) (x : List ℕ) → length x ≡ lanes → i < lanes
    → lane w (i % lanes) (slice_set x i n) ≡ n % 2 ^ w
unfolding lane
at_set_same w lanes i n x same below = grind (arith, common_steps, mod-eq_of_lt below)

-- the other lanes stay
pub at_set_other : (w lanes i n : ℕ) (x : List ℕ) (k : ℕ) → k < lanes → k ≢ i
    → lane w (k % lanes) (slice_set x i n) ≡ lane w (k % lanes) x
unfolding lane
at_set_other w lanes i n x k below other = grind (arith, common_steps, mod-eq_of_lt below)

-- the word in a lane, by the lane's number
pub at_word : (w lanes i : ℕ) (x : List ℕ) → i < lanes
    → lane w (i % lanes) x ≡ slice_index x i % 2 ^ w
unfolding lane
at_word w lanes i x below = rw (mod-eq_of_lt below) refl

-- the numbers of eight words, one by one
pub eight_read : {X : Type 0} (f : X → ℕ) (xs : List X) → length xs ≡ 8
    → let l = map f xs in slice_index l 0 ∷ slice_index l 1 ∷ slice_index l 2 ∷ slice_index l 3
    ∷ slice_index l 4 ∷ slice_index l 5 ∷ slice_index l 6 ∷ slice_index l 7 ∷ [] ≡ l
eight_read f (a ∷ b ∷ c ∷ d ∷ e ∷ g ∷ h ∷ i ∷ []) eight = refl
eight_read f _ eight = absurd (omega arith)

-- the exclusive or of two lists of eight, item by item
pub xor_eight : (x y : List ℕ) → length x ≡ 8 → length y ≡ 8
    → (slice_index x 0 ⊕ slice_index y 0) ∷ (slice_index x 1 ⊕ slice_index y 1)
    ∷ (slice_index x 2 ⊕ slice_index y 2) ∷ (slice_index x 3 ⊕ slice_index y 3)
    ∷ (slice_index x 4 ⊕ slice_index y 4) ∷ (slice_index x 5 ⊕ slice_index y 5)
    ∷ (slice_index x 6 ⊕ slice_index y 6) ∷ (slice_index x 7 ⊕ slice_index y 7) ∷ []
    ≡ xor_lists x y
xor_eight (a ∷ b ∷ c ∷ d ∷ e ∷ f ∷ g ∷ h ∷ []) (i ∷ j ∷ k ∷ l ∷ m ∷ n ∷ o ∷ p ∷ []) ex ey = refl
xor_eight _ _ ex ey = absurd (omega arith)

pub ruleset lanes = (at_and, at_xor, at_set_same, at_set_other, at_word, shifts_fit_splat)
