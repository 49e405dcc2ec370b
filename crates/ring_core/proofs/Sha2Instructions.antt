-- SPDX-License-Identifier: ISC
-- The steps of the processors' instructions for SHA-256 are the standard's.
use Rattle.std.proofs.Common.{◌≡◌, ℕ, ◌+◌, ◌*◌, ◌%◌, ◌^◌, ◌<◌, List, [], ◌∷◌, slice_index, refl}
use Rattle.std.proofs.Common.{ap, ◌∙◌, add-zero, arith, sym, map}
use Rattle.std.proofs.Math.ListN.{get_or-map}
use Rattle.std.proofs.Math.Nat.{add-mod-mod, mod-add-mod}
use Rattle.std.specs.declared.num.Wrapping.{Wrapping}
use Rattle.ring_core.specs.Instructions.{intel_round, sha256h, sha256h2, sha256hash}
use Rattle.ring_core.specs.Instructions.{sha256hash_step, sha256rnds2, sha256su0, sha256su1}
use Rattle.ring_core.specs.Prelude.{W, add_words, constants_256, family_256, ready_sum, round}
use Rattle.ring_core.specs.Prelude.{older_four, rounds_from, with_first_two, with_last_two, word_32}
use Rattle.ring_core.proofs.FourWords.{plus-none}
use Rattle.ring_core.proofs.Mapped.{number_at}
use Rattle.ring_core.proofs.Schedule.{steps-four}
use Rattle.ring_core.proofs.Sha2Steps.{rounds-next}

-- the orders in which the parts of a round's two sums are added
first-order : (n c s k w h m t : ℕ)
    → ((((((c + s) % n + (k + w) % n) % n + h) % n + m) % n + t) % n)
    ≡ (((((h + s) % n + c) % n + k) % n + w) % n + (t + m) % n) % n
first-order n c s k w h m t =
    simp (add-mod-mod, mod-add-mod) (ap (λ (x : ℕ). x % n) (omega arith))

fifth-order : (n c s k w h d : ℕ)
    → (((((c + s) % n + (k + w) % n) % n + h) % n + d) % n)
    ≡ (d + ((((h + s) % n + c) % n + k) % n + w) % n) % n
fifth-order n c s k w h d =
    simp (add-mod-mod, mod-add-mod) (ap (λ (x : ℕ). x % n) (omega arith))

-- a round of SHA256RNDS2 is the standard's
pub intel-round : (v : List ℕ) (k w : ℕ)
    → intel_round v (add_words 32 k w) ≡ round family_256 v k w
unfolding intel_round round
intel-round v k w = rw (first-order, fifth-order) refl

-- a word that is no sum
pub add-none : (x : ℕ) → x < 2 ^ 32 → add_words 32 x 0 ≡ x
add-none x fits = omega arith

-- steps that are the standard's rounds, from the sums of words and constants
module _ (step : List ℕ → ℕ → List ℕ)
    (same : (v : List ℕ) (k w : ℕ) → step v (add_words 32 k w) ≡ round family_256 v k w) where
  -- one
  pub round-sum : (v : List ℕ) (k : ℕ) → k < 2 ^ 32 → round family_256 v k 0 ≡ step v k
  round-sum v k fits = sym (same v k 0) ∙ ap (step v) (add-none k fits)

  -- four
  pub four-sums : (h b : List ℕ) (g : ℕ) {v : List ℕ} → v ≡ rounds_from family_256 h b (4 * g)
      → let s = ready_sum family_256 b in
      step (step (step (step v (s (4 * g))) (s (4 * g + 1))) (s (4 * g + 2))) (s (4 * g + 3))
      ≡ rounds_from family_256 h b (4 * (g + 1))
  four-sums h b g before =
      let k = slice_index constants_256 in
      let w = W family_256 b in
      let next = λ (v : List ℕ) (t : ℕ). same v (k t) (w t) in
      steps-four (λ v t. round family_256 v (k t) (w t)) (rounds-next family_256 h b) g before
      (next _ (4 * g)) (next _ (4 * g + 1)) (next _ (4 * g + 2)) (next _ (4 * g + 3))

-- a word of a vector, from the list of its words
pub word-read : {x : List ℕ} (xs : List (Wrapping ℕ)) → map word_32 xs ≡ x → (i : ℕ)
    → number_at xs i ≡ slice_index x i
word-read xs are i =
    sym (get_or-map word_32 xs i (record { 0 = 0 })) ∙ ap (λ (l : List ℕ). slice_index l i) are

-- a number added of which only the last bits are known
pub sum-low : (n a s : ℕ) {t : ℕ} → s % n ≡ t → (a + s) % n ≡ (a + t) % n
sum-low n a s {t} e = sym (add-mod-mod a s n) ∙ ap (λ (x : ℕ). (a + x) % n) e

-- two numbers added of which only the last bits are known, and one of these is none
pub sum-low-first : (n a s t : ℕ) {y : ℕ} → s % n ≡ y → t % n ≡ 0
    → ((a + s) % n + t) % n ≡ (a + y) % n
sum-low-first n a s t e none =
    sum-low n ((a + s) % n) t none ∙ plus-none n (a + s) ∙ sum-low n a s e

pub sum-low-second : (n a s t : ℕ) {y : ℕ} → s % n ≡ 0 → t % n ≡ y
    → ((a + s) % n + t) % n ≡ (a + y) % n
sum-low-second n a s t none e =
    sum-low n ((a + s) % n) t e ∙ rw (sum-low n a s none, mod-add-mod, add-zero) refl

-- a to h, from the two vectors of SHA256RNDS2
abbrev pub intel_variables : (abef cdgh : List ℕ) → List ℕ
intel_variables abef cdgh =
    let x = slice_index abef in
    let y = slice_index cdgh in
    x 3 ∷ x 2 ∷ y 3 ∷ y 2 ∷ x 1 ∷ x 0 ∷ y 1 ∷ y 0 ∷ []

-- two rounds
pub intel-two : (abef cdgh wk : List ℕ)
    → intel_variables (sha256rnds2 cdgh abef wk) abef
    ≡ intel_round (intel_round (intel_variables abef cdgh) (slice_index wk 0)) (slice_index wk 1)
unfolding intel_round
intel-two abef cdgh wk = refl

-- a number added to one of which only the last bits are known
pub low-sum : (n a s : ℕ) {t : ℕ} → s % n ≡ t → (s + a) % n ≡ (t + a) % n
low-sum n a s {t} e = sym (mod-add-mod s n a) ∙ ap (λ (x : ℕ). (x + a) % n) e

-- of three numbers added, the last first
pub last-first : (n a b c : ℕ) → ((a + b) % n + c) % n ≡ ((c + a) % n + b) % n
last-first n a b c = simp mod-add-mod (ap (λ (x : ℕ). x % n) (omega arith))

-- the orders in which the parts of a step's two sums are added
first-order-arm : (n c s k w h m t : ℕ)
    → ((((((h + s) % n + c) % n + (k + w) % n) % n + t) % n + m) % n)
    ≡ (((((h + s) % n + c) % n + k) % n + w) % n + (t + m) % n) % n
first-order-arm n c s k w h m t =
    simp (add-mod-mod, mod-add-mod) (ap (λ (x : ℕ). x % n) (omega arith))

fifth-order-arm : (n c s k w h d : ℕ)
    → (((((h + s) % n + c) % n + (k + w) % n) % n + d) % n)
    ≡ (d + ((((h + s) % n + c) % n + k) % n + w) % n) % n
fifth-order-arm n c s k w h d =
    simp (add-mod-mod, mod-add-mod) (ap (λ (x : ℕ). x % n) (omega arith))

-- a step of SHA256hash is the standard's round
pub arm-round : (v : List ℕ) (k w : ℕ)
    → sha256hash_step v (add_words 32 k w) ≡ round family_256 v k w
unfolding sha256hash_step round
arm-round v k w = rw (first-order-arm, fifth-order-arm) refl

-- SHA256H and SHA256H2 together
abbrev pub arm_variables : (abcd efgh : List ℕ) → List ℕ
arm_variables abcd efgh =
    let x = slice_index abcd in
    let y = slice_index efgh in
    x 0 ∷ x 1 ∷ x 2 ∷ x 3 ∷ y 0 ∷ y 1 ∷ y 2 ∷ y 3 ∷ []

pub arm-both : (abcd efgh wk : List ℕ)
    → arm_variables (sha256h abcd efgh wk) (sha256h2 efgh abcd wk) ≡ sha256hash abcd efgh wk
unfolding sha256hash_step
arm-both abcd efgh wk = refl

-- the order in which the parts of a word of the schedule are added
next-order : (n a s b t : ℕ)
    → ((t + (s + a) % n) % n + b) % n ≡ (((a + s) % n + b) % n + t) % n
next-order n a s b t = simp (add-mod-mod, mod-add-mod) (ap (λ (x : ℕ). x % n) (omega arith))

-- SHA256SU0 and SHA256SU1 give the next four words
pub arm-next : (x y z u : List ℕ)
    → let f = family_256 in
    sha256su1 (sha256su0 x y) z u ≡ with_last_two f (with_first_two f (older_four f x y z u) u)
arm-next x y z u = simp next-order refl
