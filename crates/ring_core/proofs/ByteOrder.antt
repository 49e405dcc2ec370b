-- SPDX-License-Identifier: ISC
-- Words of four bytes each, read from sixteen bytes at once.
use Rattle.std.proofs.Common.{◌≡◌, ℕ, ◌+◌, ◌*◌, ◌/◌, ◌%◌, ◌^◌, ◌<◌, ◌≤◌, List, [], ◌∷◌, length}
use Rattle.std.proofs.Common.{◌++◌, ◌∙◌, arith, drop, length-drop, refl, slice_index, take}
use Rattle.std.proofs.lemmas.List.{drop-drop, get_or-drop}
use Rattle.std.specs.Simd.Lanes.{digits_l, number_l}
use Rattle.ring_core.specs.Prelude.{big_endian, four, word_at}

-- the lowest four bytes of a number, and the rest
digit : (a b c d rest : ℕ) → (a < 256) × (b < 256) × (c < 256) × (d < 256)
    → let n = a + 256 * (b + 256 * (c + 256 * (d + 256 * rest))) in
    (n % 2 ^ 32 ≡ big_endian (d ∷ c ∷ b ∷ a ∷ [])) × (n / 2 ^ 32 ≡ rest)
digit a b c d rest (fa, fb, fc, fd) = (omega arith, omega arith)

-- four words of sixteen bytes, each with its bytes in the other order
abbrev pub swapped : List ℕ → List ℕ
swapped x =
    let y = take 16 (take 16 x) in
    let b = slice_index (y ++ y) in
    digits_l (2 ^ 32) 4 (number_l 256 (b 3 ∷ b 2 ∷ b 1 ∷ b 0 ∷ b 7 ∷ b 6 ∷ b 5 ∷ b 4
    ∷ b 11 ∷ b 10 ∷ b 9 ∷ b 8 ∷ b 15 ∷ b 14 ∷ b 13 ∷ b 12 ∷ []))

words-swapped : (x : List ℕ) → 16 ≤ length x → ((i : ℕ) → slice_index x i < 256)
    → let word = λ (i : ℕ). big_endian (take 4 (drop (i * 4) x)) in
    swapped x ≡ word 0 ∷ word 1 ∷ word 2 ∷ word 3 ∷ []
words-swapped (a ∷ b ∷ c ∷ d ∷ e ∷ f ∷ g ∷ h ∷ i ∷ j ∷ k ∷ l ∷ m ∷ n ∷ o ∷ p ∷ _) long fits =
    let fourth = digit p o n m 0 (fits 15, fits 14, fits 13, fits 12) in
    let third = digit l k j i (number_l 256 (p ∷ o ∷ n ∷ m ∷ []))
    (fits 11, fits 10, fits 9, fits 8) in
    let second = digit h g f e (number_l 256 (l ∷ k ∷ j ∷ i ∷ p ∷ o ∷ n ∷ m ∷ []))
    (fits 7, fits 6, fits 5, fits 4) in
    let first = digit d c b a
    (number_l 256 (h ∷ g ∷ f ∷ e ∷ l ∷ k ∷ j ∷ i ∷ p ∷ o ∷ n ∷ m ∷ []))
    (fits 3, fits 2, fits 1, fits 0) in
    rw (first.0, first.1, second.0, second.1, third.0, third.1, fourth.0) refl
words-swapped _ long fits = absurd (omega arith)

-- the same of bytes from 16 j on
pub words-read : (x : List ℕ) (j : ℕ) → 16 * j + 16 ≤ length x
    → ((i : ℕ) → slice_index x i < 256)
    → swapped (drop (16 * j) x) ≡ four (word_at 32 x) j
words-read x j room fits =
    let y = drop (16 * j) x in
    let at = λ (i k : ℕ) (e : k ≡ 16 * j + i).
    let is : drop i y ≡ drop k x = rw e (drop-drop i (16 * j) x) in is in
    words-swapped y (omega (arith, length-drop (16 * j) x))
    (λ i. rw (get_or-drop (16 * j) x i 0) (fits (16 * j + i)))
    ∙ rw (
      at 12 ((4 * j + 3) * 4) (omega arith),
      at 8 ((4 * j + 2) * 4) (omega arith),
      at 4 ((4 * j + 1) * 4) (omega arith),
      at 0 (4 * j * 4) (omega arith),
    ) refl
