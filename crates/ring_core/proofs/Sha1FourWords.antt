-- SPDX-License-Identifier: ISC
-- SHA-1's schedule, four words at a time: from the thirty-third word on, from the words 6, 16, 28
-- and 32 before.
use Rattle.std.proofs.Common.{◌≡◌, ℕ, zero, suc, ◌+◌, ◌-◌, ◌*◌, ◌/◌, ◌%◌, ◌^◌, ◌<◌, List, [], ◌∷◌}
use Rattle.std.proofs.Common.{map, slice_index, mod-lt, pow_pos, refl, sym, ap, ◌∙◌, arith}
use Rattle.std.proofs.Common.{inl, inr}
use Rattle.std.proofs.lemmas.Bool.{cases_lt}
use Rattle.std.proofs.lemmas.Grind.{common_steps}
use Rattle.std.proofs.lemmas.Nat.{xor_comm, xor_lt}
use Rattle.std.proofs.lemmas.Nat.Bits.{bit_at_xor, same_from_bits}
use Rattle.std.proofs.Math.ListN.{get_or-map}
use Rattle.std.proofs.Math.Nat.{add_assoc}
use Rattle.std.specs.Int.Bits.{xor_assoc, xor_zero_l}
use Rattle.ring_core.specs.Prelude.{◌⊕◌, array_at, four, low_32, rotl, sixteen, word_at}
use Rattle.ring_core.specs.FourWords.{later_four, next_four}
use Rattle.ring_core.specs.Sha1.{HasWords, W, scheduled}
use Rattle.ring_core.proofs.FourWords.{four-same, four_more}
use Rattle.ring_core.proofs.Rotation.{rotr-lt, rotr-xor}
use Rattle.ring_core.proofs.Sha1Steps.{W-first, W-next}

-- the words of a block are the first of its schedule
four-first : (b : List ℕ) (g : ℕ) → g < 4 → four (word_at 32 b) g ≡ four (W b) g
four-first b g below = four-same g (λ t from to. sym (W-first b t (omega arith)))

pub sixteen-first : (b : List ℕ) → sixteen (word_at 32 b) 0 ≡ sixteen (W b) 0
sixteen-first b =
    rw (
      four-first b 0 (omega arith),
      four-first b 1 (omega arith),
      four-first b 2 (omega arith),
      four-first b 3 (omega arith),
    ) refl

-- words under exclusive or, rotated left by one, one by one or at once
pub rotl-xor : (a b : ℕ) → a < 2 ^ 32 → b < 2 ^ 32 → rotl 32 1 (a ⊕ b) ≡ rotl 32 1 a ⊕ rotl 32 1 b
rotl-xor a b fa fb = rotr-xor 32 31 (omega arith) fa fb

rotl-four : (a b c d : ℕ) → a < 2 ^ 32 → b < 2 ^ 32 → c < 2 ^ 32 → d < 2 ^ 32
    → rotl 32 1 a ⊕ rotl 32 1 b ⊕ rotl 32 1 c ⊕ rotl 32 1 d ≡ rotl 32 1 (a ⊕ b ⊕ c ⊕ d)
rotl-four a b c d fa fb fc fd =
    let ab = xor_lt 32 a b fa fb in
    let abc = xor_lt 32 (a ⊕ b) c ab fc in
    rw (rotl-xor (a ⊕ b ⊕ c) d abc fd, rotl-xor (a ⊕ b) c ab fc, rotl-xor a b fa fb) refl

pub rotl-twice : (x : ℕ) → x < 2 ^ 32 → rotl 32 1 (rotl 32 1 x) ≡ rotl 32 2 x
rotl-twice x fits = omega (arith, fits)

-- four words under exclusive or
pub xor-lt : {a b c d : ℕ} → a < 2 ^ 32 → b < 2 ^ 32 → c < 2 ^ 32 → d < 2 ^ 32
    → a ⊕ b ⊕ c ⊕ d < 2 ^ 32
xor-lt {a} {b} {c} {d} fa fb fc fd =
    xor_lt 32 (a ⊕ b ⊕ c) d (xor_lt 32 (a ⊕ b) c (xor_lt 32 a b fa fb) fc) fd

-- of four times four words six stand twice
cancelled : (w : ℕ → ℕ) (t : ℕ)
    → (w (t + 26) ⊕ w (t + 21) ⊕ w (t + 15) ⊕ w (t + 13))
    ⊕ (w (t + 21) ⊕ w (t + 16) ⊕ w (t + 10) ⊕ w (t + 8))
    ⊕ (w (t + 15) ⊕ w (t + 10) ⊕ w (t + 4) ⊕ w (t + 2))
    ⊕ (w (t + 13) ⊕ w (t + 8) ⊕ w (t + 2) ⊕ w t) ≡ w (t + 26) ⊕ w (t + 16) ⊕ w (t + 4) ⊕ w t
cancelled w t = same_from_bits _ _ (λ n. simp bit_at_xor (omega arith))

-- a word from the thirty-third on: the standard's form of each of the four words that it is made of
W-later : (b : List ℕ) (t : ℕ) → HasWords b
    → rotl 32 2 (W b (t + 26) ⊕ W b (t + 16) ⊕ W b (t + 4) ⊕ W b t) ≡ W b (t + 32)
W-later b t fits =
    let w = W b in
    let lt = λ (i j k l : ℕ). xor-lt (fits (t + i)) (fits (t + j)) (fits (t + k)) (fits l) in
    let once : w (t + 29) ⊕ w (t + 24) ⊕ w (t + 18) ⊕ w (t + 16)
    ≡ rotl 32 1 (w (t + 26) ⊕ w (t + 16) ⊕ w (t + 4) ⊕ w t) =
    cc (
      simp add_assoc at (W-next b (t + 13)),
      simp add_assoc at (W-next b (t + 8)),
      simp add_assoc at (W-next b (t + 2)),
      W-next b t,
      rotl-four _ _ _ _ (lt 26 21 15 (t + 13)) (lt 21 16 10 (t + 8)) (lt 15 10 4 (t + 2))
          (lt 13 8 2 t),
      cancelled w t,
    ) in
    sym (simp add_assoc at (W-next b (t + 16)) ∙ ap (rotl 32 1) once ∙ rotl-twice _ (lt 26 16 4 t))

-- four words from the thirty-third on
pub W-later_four : (b : List ℕ) (g : ℕ) → HasWords b
    → let w = four (W b) in
    later_four (w g) (w (g + 1)) (w (g + 4)) (w (g + 6)) (w (g + 7)) ≡ w (g + 8)
W-later_four b g fits =
    let t = 4 * g in
    simp (four_more, add_assoc) (rw (
      W-later b t fits,
      simp add_assoc at (W-later b (t + 1) fits),
      simp add_assoc at (W-later b (t + 2) fits),
      simp add_assoc at (W-later b (t + 3) fits),
    ) refl)

-- the four words after sixteen
pub W-next_four : (b : List ℕ) (g : ℕ)
    → let w = four (W b) in next_four (w g) (w (g + 1)) (w (g + 2)) (w (g + 3)) ≡ w (g + 4)
W-next_four b g =
    let t = 4 * g in
    simp (four_more, add_assoc) (rw (
      ← W-next b t,
      ← simp add_assoc at (W-next b (t + 1)),
      ← simp add_assoc at (W-next b (t + 2)),
      ← simp add_assoc at (W-next b (t + 3)),
    ) refl)

-- the same, from a list of these fours
pub W-next_words : (b : List ℕ) (g : ℕ) {x y z u : List ℕ}
    → x ∷ y ∷ z ∷ u ∷ [] ≡ sixteen (W b) g → next_four x y z u ≡ four (W b) (g + 4)
W-next_words b g words =
    let at = λ (i : ℕ). ap (λ (l : List (List ℕ)). array_at l i) words in
    rw (at 0, at 1, at 2, at 3) (W-next_four b g)

-- a word of which the word three before it is added last
pub scheduled-last : (w c b a : ℕ) → w < 2 ^ 32 → c < 2 ^ 32 → b < 2 ^ 32 → a < 2 ^ 32
    → rotl 32 1 (0 ⊕ c ⊕ b ⊕ a) ⊕ rotl 32 1 w ≡ scheduled w c b a
scheduled-last w c b a fw fc fb fa =
    let same : (0 ⊕ c ⊕ b ⊕ a) ⊕ w ≡ w ⊕ c ⊕ b ⊕ a =
    rw (xor_zero_l c, xor_comm (c ⊕ b ⊕ a) w, ← xor_assoc w (c ⊕ b) a, ← xor_assoc w c b) refl in
    sym (rotl-xor (0 ⊕ c ⊕ b ⊕ a) w (xor-lt {a = 0} (omega arith) fc fb fa) fw)
    ∙ ap (rotl 32 1) same

pub scheduled-lt : {d c b a : ℕ} → d < 2 ^ 32 → c < 2 ^ 32 → b < 2 ^ 32 → a < 2 ^ 32
    → scheduled d c b a < 2 ^ 32
scheduled-lt {d} {c} {b} {a} fd fc fb fa =
    rotr-lt 32 (d ⊕ c ⊕ b ⊕ a) 31 (omega arith) (xor-lt fd fc fb fa)

-- where the first sixteen words have 32 bits, all have
words-below : (b : List ℕ) → ((t : ℕ) → t < 16 → W b t < 2 ^ 32) → (n t : ℕ) → t < n
    → W b t < 2 ^ 32
words-below b first zero t below = absurd (omega arith)
words-below b first (suc n) t below =
    elim (cases_lt t 16) [
      | inl lt ↦ first t lt
      | inr ge ↦
          let f = words-below b first n in
          let u = t - 16 in
          let e : t ≡ u + 16 = omega arith in
          rw (e, W-next b u) (scheduled-lt (f (u + 13) (omega arith)) (f (u + 8) (omega arith))
          (f (u + 2) (omega arith)) (f u (omega arith)))
    ]

-- a word of a four, and of a sixteen
four-at : (w : ℕ → ℕ) (g j : ℕ) → j < 4 → slice_index (four w g) j ≡ w (4 * g + j)
four-at w g j below = grind (arith, common_steps)

sixteen-at : (w : ℕ → ℕ) (g j : ℕ) → g < 4 → j < 4
    → slice_index (array_at (sixteen w 0) g) j ≡ w (4 * g + j)
sixteen-at w zero j within below = four-at w 0 j below
sixteen-at w (suc zero) j within below = four-at w 1 j below
sixteen-at w (suc (suc zero)) j within below = four-at w 2 j below
sixteen-at w (suc (suc (suc zero))) j within below = four-at w 3 j below
sixteen-at w _ j within below = absurd (omega arith)

-- a word read from lanes has 32 bits
low-lt : (x : List (List ℕ)) (g j : ℕ)
    → slice_index (array_at (map (map low_32) x) g) j < 2 ^ 32
low-lt x g j =
    rw (get_or-map (map low_32) x g [], get_or-map low_32 (array_at x g) j 0)
    (mod-lt _ (pow_pos 32))

-- where a block's words are read from lanes, those of its schedule have 32 bits
pub words-of-fours : (b : List ℕ) (x : List (List ℕ))
    → map (map low_32) x ≡ sixteen (word_at 32 b) 0 → HasWords b
words-of-fours b x are t =
    let at : (g j : ℕ) → g < 4 → j < 4 → word_at 32 b (4 * g + j) < 2 ^ 32 = λ g j within below.
    let e : slice_index (array_at (map (map low_32) x) g) j ≡ word_at 32 b (4 * g + j) =
    rw are (sixteen-at (word_at 32 b) g j within below) in
    rw (← e) (low-lt x g j) in
    let first : (k : ℕ) → k < 16 → W b k < 2 ^ 32 = λ k below.
    let e : 4 * (k / 4) + k % 4 ≡ k = omega arith in
    rw (W-first b k below, ← e) (at (k / 4) (k % 4) (omega arith) (omega arith)) in
    words-below b first (t + 1) t (omega arith)
