-- SPDX-License-Identifier: ISC
-- Words that each follow from those before them.
use Rattle.std.proofs.Common.{◌≡◌, ℕ, zero, suc, ◌+◌, ◌-◌, ◌*◌, ◌%◌, ◌<◌, ◌≤◌, List, [], ◌∷◌}
use Rattle.std.proofs.Common.{length, slice_index, map, refl, ◌∙◌, arith, inl, inr}
use Rattle.std.proofs.lemmas.List.{get_or-map, get_or_append_left, get_or_push, length-set}
use Rattle.std.proofs.lemmas.List.{length_push, map-set}
use Rattle.std.proofs.lemmas.Grind.{common_steps}
use Rattle.std.proofs.lemmas.Bool.{cases_lt}
use Rattle.std.proofs.Math.ListN.{get_or, length-map, set}
use Rattle.ring_core.specs.Prelude.{HoldsSums, IsWindow, four, listed, listed_at}

length-listed : (next : List ℕ → ℕ → ℕ) (n : ℕ) → length (listed next n) ≡ n
unfolding listed
length-listed next zero = refl
length-listed next (suc n) =
    omega (arith, length_push (listed next n) (next (listed next n) n), length-listed next n)

-- a longer list begins as a shorter one
pub slice_index-listed : (next : List ℕ → ℕ → ℕ) (n t : ℕ) → t < n
    → slice_index (listed next n) t ≡ listed_at next t
unfolding listed listed_at
slice_index-listed next zero t h = absurd (omega arith)
slice_index-listed next (suc n) t h = elim (cases_lt t n) [
  | inl lt ↦
      let l : t < length (listed next n) = omega (arith, length-listed next n) in
      get_or_append_left (listed next n) (next (listed next n) n ∷ []) 0 t l
      ∙ slice_index-listed next n t lt
  | inr ge ↦
      let e : t ≡ n = omega arith in
      rw e refl
]

-- the word i before word n
pub listed-before : (next : List ℕ → ℕ → ℕ) (n i k : ℕ) → k + i ≡ n → 0 < i
    → slice_index (listed next n) (n - i) ≡ listed_at next k
listed-before next n i k here positive =
    let e : n - i ≡ k = omega arith in rw e (slice_index-listed next n k (omega arith))

-- a word, from those before it
pub listed_at-next : (next : List ℕ → ℕ → ℕ) (t : ℕ) → listed_at next t ≡ next (listed next t) t
unfolding listed listed_at
listed_at-next next t =
    get_or_push (listed next t) (next (listed next t) t) 0 t (length-listed next t)

-- a window holds what equals its words
pub window-same : (w x : ℕ → ℕ) (window : List ℕ) (t : ℕ) → IsWindow w window t
    → ((k : ℕ) → k < t → w k ≡ x k) → IsWindow x window t
window-same w x window t ready same = record {
  sixteen = ready.sixteen;
  held = λ k below near. ready.held k below near ∙ same k below;
}

-- one word more, in the slot of the oldest
pub window-set : {X : Type 0} {t : ℕ} (f : X → ℕ) (w : ℕ → ℕ) (window : List X) (slot : ℕ) (x : X)
    → IsWindow w (map f window) t → slot ≡ t % 16 → f x ≡ w t
    → IsWindow w (map f (set window slot x)) (t + 1)
window-set {t} f w window slot x ready place word =
    rw (map-set f window slot x) (record {
      sixteen = length-set (map f window) slot (f x) ∙ ready.sixteen;
      held = λ k below near. grind (arith, common_steps, ready.sixteen, ready.held k, word, place);
    })

-- a word read from the sums
pub sum-read : {X : Type 0} {s : ℕ → ℕ} {n place y : ℕ} (f : X → List ℕ) (sums : List X) (g j : ℕ)
    (x : X) → HoldsSums s (map f sums) n → (place ≡ g % 4) × (g < n) × (n ≤ g + 4)
    → y ≡ slice_index (f (get_or sums place x)) j → y ≡ slice_index (four s g) j
sum-read f sums g j x ready at read =
    let item = get_or-map f sums (g % 4) x [] (omega (arith, ready.fours, length-map sums f)) in
    cc (read, at.0, item, ready.held g at.1 at.2)

-- room for sums before the first four
pub sums-empty : {X : Type 0} {s : ℕ → ℕ} (f : X → List ℕ) (sums : List X) → length sums ≡ 4
    → HoldsSums s (map f sums) 0
sums-empty f sums len = record {
  fours = length-map sums f ∙ len;
  held = λ g below near. absurd (omega arith);
}

-- one four more, at the place of the oldest
pub sums-set : {X : Type 0} {n : ℕ} (f : X → List ℕ) (s : ℕ → ℕ) (sums : List X) (place : ℕ)
    (x : X) → HoldsSums s (map f sums) n → place ≡ n % 4 → f x ≡ four s n
    → HoldsSums s (map f (set sums place x)) (n + 1)
sums-set {n} f s sums place x ready at four =
    rw (map-set f sums place x) (record {
      fours = length-set (map f sums) place (f x) ∙ ready.fours;
      held = λ g below near. grind (arith, common_steps, ready.fours, ready.held g, four, at);
    })

-- four steps, of which each is the next
pub steps-four : {v0 v1 v2 v3 v4 : List ℕ} {after : ℕ → List ℕ} (step : List ℕ → ℕ → List ℕ)
    → ((t : ℕ) → after (t + 1) ≡ step (after t) t) → (g : ℕ) → v0 ≡ after (4 * g)
    → v1 ≡ step v0 (4 * g) → v2 ≡ step v1 (4 * g + 1) → v3 ≡ step v2 (4 * g + 2)
    → v4 ≡ step v3 (4 * g + 3) → v4 ≡ after (4 * (g + 1))
steps-four step next g e0 e1 e2 e3 e4 =
    let t = 4 * g in
    grind (arith, e0, e1, e2, e3, e4, next t, next (t + 1), next (t + 2), next (t + 3))
