-- SPDX-License-Identifier: ISC
-- SHA-2's schedule, four words at a time.
use Rattle.std.proofs.Common.{◌≡◌, ℕ, ◌+◌, ◌*◌, ◌%◌, ◌^◌, ◌<◌, List, [], ◌∷◌, ◌∙◌, refl, sym}
use Rattle.std.proofs.Common.{ap, arith}
use Rattle.std.proofs.Math.Nat.{add_assoc, mod-add-mod}
use Rattle.ring_core.specs.Prelude.{Family, W, add_words, array_at, four, older_four, older_sum}
use Rattle.ring_core.specs.Prelude.{sixteen, with_first_two, with_last_two, word_at, σ0, σ1}
use Rattle.ring_core.proofs.FourWords.{four-same, four_more}
use Rattle.ring_core.proofs.Sha2Steps.{W-first, W-next}

-- the words of a block are the first of its schedule
four-loaded : (f : Family) (b : List ℕ) (g : ℕ) → g < 4 → four (word_at f.bits b) g ≡ four (W f b) g
four-loaded f b g below = four-same g (λ t from to. sym (W-first f b t (omega arith)))

pub sixteen-loaded : (f : Family) (n : ℕ) (b : List ℕ) → n ≡ f.bits
    → sixteen (word_at n b) 0 ≡ sixteen (W f b) 0
sixteen-loaded f n b same =
    rw (
      same,
      four-loaded f b 0 (omega arith),
      four-loaded f b 1 (omega arith),
      four-loaded f b 2 (omega arith),
      four-loaded f b 3 (omega arith),
    ) refl

-- the order in which a word's parts are added
order : (n a b c d : ℕ)
    → (((a + b) % n + c) % n + d) % n ≡ (((d + c) % n + b) % n + a) % n
order n a b c d = simp mod-add-mod (ap (λ (x : ℕ). x % n) (omega arith))

-- a word, from what it takes of older ones and of the word two before it
W-older : (f : Family) (b : List ℕ) (t : ℕ) → let w = W f b in
    add_words f.bits (older_sum f (w t) (w (t + 1)) (w (t + 9))) (σ1 f (w (t + 14))) ≡ w (t + 16)
W-older f b t =
    let w = W f b in
    order (2 ^ f.bits) (w t) (σ0 f (w (t + 1))) (w (t + 9)) (σ1 f (w (t + 14))) ∙ sym (W-next f b t)

-- the next four words, from the sixteen before them, in three parts
pub W-next_four : (f : Family) (b : List ℕ) (g : ℕ)
    → let w = four (W f b) in
    with_last_two f (with_first_two f (older_four f (w g) (w (g + 1)) (w (g + 2)) (w (g + 3)))
    (w (g + 3)))
    ≡ w (g + 4)
W-next_four f b g =
    let t = 4 * g in
    simp (four_more, add_assoc) (rw (
      W-older f b t,
      simp add_assoc at (W-older f b (t + 1)),
      simp add_assoc at (W-older f b (t + 2)),
      simp add_assoc at (W-older f b (t + 3)),
    ) refl)

-- the same, from a list of these fours
pub W-next_words : (f : Family) (b : List ℕ) (g : ℕ) {x y z u : List ℕ}
    → x ∷ y ∷ z ∷ u ∷ [] ≡ sixteen (W f b) g
    → with_last_two f (with_first_two f (older_four f x y z u) u) ≡ four (W f b) (g + 4)
W-next_words f b g words =
    let at = λ (i : ℕ). ap (λ (l : List (List ℕ)). array_at l i) words in
    rw (at 0, at 1, at 2, at 3) (W-next_four f b g)
