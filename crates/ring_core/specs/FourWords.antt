-- SPDX-License-Identifier: ISC
-- Four words of a schedule from those before them, as the kernels of one block compute them. That
-- these are the standard's is proved in `Sha1FourWords` and `Sha2FourWords`.
use Rattle.std.specs.Prelude.{ℕ, List, [], ◌∷◌, slice_index}
use Rattle.ring_core.specs.Sha1.{scheduled}
use Rattle.ring_core.specs.Sha2.{Family, σ0, σ1}
use Rattle.ring_core.specs.Word.{◌⊕◌, add_words, rotl, sum_words}

-- of SHA-1, from the sixteen words before them, in fours (6.1.2, step 1)
abbrev pub next_four : (first second third fourth : List ℕ) → List ℕ
next_four first second third fourth =
    let a = slice_index first in
    let b = slice_index second in
    let c = slice_index third in
    let d = slice_index fourth in
    let w = scheduled (d 1) (c 0) (a 2) (a 0) in
    w ∷ scheduled (d 2) (c 1) (a 3) (a 1) ∷ scheduled (d 3) (c 2) (b 0) (a 2)
    ∷ scheduled w (c 3) (b 1) (a 3) ∷ []

-- of SHA-1 from the thirty-third on, each from the words 6, 16, 28 and 32 before it, which stand in
-- five of the eight fours before these
abbrev pub later_four : (first second fifth seventh eighth : List ℕ) → List ℕ
later_four first second fifth seventh eighth =
    let a = slice_index first in
    let b = slice_index second in
    let e = slice_index fifth in
    let g = slice_index seventh in
    let h = slice_index eighth in
    rotl 32 2 (g 2 ⊕ e 0 ⊕ b 0 ⊕ a 0) ∷ rotl 32 2 (g 3 ⊕ e 1 ⊕ b 1 ⊕ a 1)
    ∷ rotl 32 2 (h 0 ⊕ e 2 ⊕ b 2 ⊕ a 2) ∷ rotl 32 2 (h 1 ⊕ e 3 ⊕ b 3 ⊕ a 3) ∷ []

-- of SHA-2, W t without its part σ1 W(t-2) (6.2.2, 6.4.2, step 1)
abbrev pub older_sum : Family → ℕ → ℕ → ℕ → ℕ
older_sum f w16 w15 w7 = sum_words f.bits (w16 ∷ σ0 f w15 ∷ w7 ∷ [])

-- that of four words, from the sixteen before them, in fours
abbrev pub older_four : Family → (first second third fourth : List ℕ) → List ℕ
older_four f first second third fourth =
    let w = slice_index first in
    let w' = slice_index third in
    let o = older_sum f in
    o (w 0) (w 1) (w' 1) ∷ o (w 1) (w 2) (w' 2) ∷ o (w 2) (w 3) (w' 3)
    ∷ o (w 3) (slice_index second 0) (slice_index fourth 0) ∷ []

-- the first two of these words whole, by the four words before them
abbrev pub with_first_two : Family → (older fourth : List ℕ) → List ℕ
with_first_two f older fourth =
    let p = slice_index older in
    let w = slice_index fourth in
    add_words f.bits (p 0) (σ1 f (w 2)) ∷ add_words f.bits (p 1) (σ1 f (w 3)) ∷ p 2 ∷ p 3 ∷ []

-- and then the last two, by the first two
abbrev pub with_last_two : Family → List ℕ → List ℕ
with_last_two f half =
    let p = slice_index half in
    p 0 ∷ p 1 ∷ add_words f.bits (p 2) (σ1 f (p 0)) ∷ add_words f.bits (p 3) (σ1 f (p 1)) ∷ []
