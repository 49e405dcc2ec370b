-- SPDX-License-Identifier: ISC
-- The numbers of a list of words: read, written and added.
use Rattle.std.proofs.Common.{◌≡◌, ℕ, ◌+◌, ◌%◌, ◌≤◌, List, [], ◌∷◌, ◌++◌, drop, length, take}
use Rattle.std.proofs.Common.{slice_index, map, refl, sym, ap, arith, nat_lt, true}
use Rattle.std.proofs.lemmas.List.{get_or-map}
use Rattle.std.proofs.lemmas.Grind.{common_steps}
use Rattle.std.proofs.lemmas.Bool.{ltb-true}
use Rattle.std.proofs.Math.ListN.{get_or}
use Rattle.std.proofs.Math.Nat.{add-mod-mod, mod-add-mod}
use Rattle.std.specs.declared.num.Wrapping.{Wrapping}
use Rattle.ring_core.specs.Prelude.{word_32}

-- the number of a word that was read from n of them
pub value_read : {X : Type 0} (f : X → ℕ) (xs : List X) (n : ℕ) → length xs ≡ n → (i : ℕ) (x : X)
    → nat_lt i n ≡ true → f (get_or xs i x) ≡ slice_index (map f xs) i
value_read f xs n len i x below = sym (get_or-map f xs i x 0 (rw len (ltb-true i n below)))

-- an item past the front of a list that is put before the rest of another
pub past_front : (n t : ℕ) (xs ys : List ℕ) → n ≤ length xs → n ≤ t
    → slice_index (take n xs ++ drop n ys) t ≡ slice_index ys t
past_front n t xs ys room past = grind (arith, common_steps)

-- the numbers of the first five
pub first_five : {X : Type 0} (f : X → ℕ) (xs : List X) → length xs ≡ 8 → (v w x y z : X)
    → f (get_or xs 0 v) ∷ f (get_or xs 1 w) ∷ f (get_or xs 2 x) ∷ f (get_or xs 3 y)
    ∷ f (get_or xs 4 z) ∷ [] ≡ take 5 (map f xs)
first_five f (a ∷ b ∷ c ∷ d ∷ e ∷ g ∷ h ∷ i ∷ []) eight v w x y z = refl
first_five f _ eight v w x y z = absurd (omega arith)

-- the number of an item, which is that of 0 past the end
abbrev pub number_at : List (Wrapping ℕ) → ℕ → ℕ
number_at xs i = word_32 (get_or xs i (record { 0 = 0 }))

-- the numbers of a list of five
pub all_five : (xs : List (Wrapping ℕ)) → length xs ≡ 5 → let n = number_at xs in
    n 0 ∷ n 1 ∷ n 2 ∷ n 3 ∷ n 4 ∷ [] ≡ map word_32 xs
all_five (a ∷ b ∷ c ∷ d ∷ e ∷ []) five = refl
all_five _ five = absurd (omega arith)

-- the last three
pub last_three : {X : Type 0} (xs : List X) (x y z : X) → length xs ≡ 8
    → get_or xs 5 x ∷ get_or xs 6 y ∷ get_or xs 7 z ∷ [] ≡ drop 5 xs
last_three (a ∷ b ∷ c ∷ d ∷ e ∷ f ∷ g ∷ h ∷ []) x y z eight = refl
last_three _ x y z eight = absurd (omega arith)

-- the numbers of a list of two
pub two_read : (x : List ℕ) → length x ≡ 2 → x ≡ slice_index x 0 ∷ slice_index x 1 ∷ []
two_read (a ∷ b ∷ []) len = refl
two_read _ len = absurd (omega arith)

-- lists of two that are the same, item by item
pub same_two : {a b c d : ℕ} → a ∷ b ∷ [] ≡ c ∷ d ∷ [] → (a ≡ c) × (b ≡ d)
same_two e = (ap (λ (l : List ℕ). slice_index l 0) e, ap (λ (l : List ℕ). slice_index l 1) e)

-- two numbers added to a third at once or in turn
pub sum_of_pair : (n x k w : ℕ) → (x + (k + w) % n) % n ≡ ((x + k) % n + w) % n
sum_of_pair n x k w = simp (add-mod-mod, mod-add-mod) (ap (λ (m : ℕ). m % n) (omega arith))

-- the terms of T₁, what is ready last added last
pub terms_of_temp1 : (n h s c k w : ℕ) → (((h + (k + w) % n) % n + c) % n + s) % n
    ≡ ((((h + s) % n + c) % n + k) % n + w) % n
terms_of_temp1 n h s c k w = simp (add-mod-mod, mod-add-mod) (ap (λ (m : ℕ). m % n) (omega arith))

-- T₁ and then the terms of T₂, the last first
pub terms_of_a : (n t s m : ℕ) → ((t + m) % n + s) % n ≡ (t + (s + m) % n) % n
terms_of_a n t s m = simp (add-mod-mod, mod-add-mod) (ap (λ (m : ℕ). m % n) (omega arith))
