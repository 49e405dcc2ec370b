-- SPDX-License-Identifier: ISC
-- The block function of SHA-1 (FIPS 180-4, 6.1.2).
use Rattle.std.specs.Prelude.{ℕ, zero, suc, ◌-◌, ◌^◌, ◌<◌, List, [], ◌∷◌, slice_index, nat_lt}
use Rattle.std.specs.Prelude.{if◌then◌else◌}
use Rattle.ring_core.specs.Schedule.{listed_at}
use Rattle.ring_core.specs.Chunks.{fold_chunks}
use Rattle.ring_core.specs.Word.{◌⊕◌, add_words, choose, majority, parity, rotl, sum_words, word_at}

-- f t x y z: Ch, Parity, Maj and Parity again, for twenty rounds each (4.1.1)
abbrev pub round_function : ℕ → ℕ → ℕ → ℕ → ℕ
round_function t x y z =
    if nat_lt t 20 then choose 32 x y z
    else if nat_lt t 40 then parity x y z
    else if nat_lt t 60 then majority x y z
    else parity x y z

-- K t (4.2.1)
abbrev pub round_constant : ℕ → ℕ
round_constant t =
    if nat_lt t 20 then 0x5a827999
    else if nat_lt t 40 then 0x6ed9eba1
    else if nat_lt t 60 then 0x8f1bbcdc
    else 0xca62c1d6

-- ROTL 1 (W(t-3) ⊕ W(t-8) ⊕ W(t-14) ⊕ W(t-16)) (6.1.2, step 1)
abbrev pub scheduled : ℕ → ℕ → ℕ → ℕ → ℕ
scheduled w3 w8 w14 w16 = rotl 32 1 (w3 ⊕ w8 ⊕ w14 ⊕ w16)

-- a word over the list ws of the words before it
abbrev pub scheduled_at : List ℕ → ℕ → ℕ
scheduled_at ws t =
    let w = slice_index ws in
    scheduled (w (t - 3)) (w (t - 8)) (w (t - 14)) (w (t - 16))

-- word t of the schedule, from the words before it (6.1.2, step 1)
abbrev pub next_word : List ℕ → List ℕ → ℕ → ℕ
next_word block ws t = if nat_lt t 16 then word_at 32 block t else scheduled_at ws t

-- W t of a block (6.1.2, step 1)
unfoldable pub W : List ℕ → ℕ → ℕ
W block = listed_at (next_word block)

-- each word of the block's schedule has 32 bits, as it has where the block's bytes are bytes
abbrev pub HasWords : List ℕ → Type 0
HasWords block = (t : ℕ) → W block t < 2 ^ 32

-- K t + W t (6.1.2, step 3)
abbrev pub ready_sum : List ℕ → ℕ → ℕ
ready_sum block t = add_words 32 (round_constant t) (W block t)

-- the working variables after round t, from a to e (6.1.2, step 3)
abbrev pub next_variables : (t a b c d e w : ℕ) → List ℕ
next_variables t a b c d e w =
    let T = sum_words 32 (rotl 32 5 a ∷ round_function t b c d ∷ e ∷ round_constant t ∷ w ∷ []) in
    T ∷ a ∷ rotl 32 30 b ∷ c ∷ d ∷ []

-- the same over the list v of the variables
unfoldable pub round : List ℕ → ℕ → ℕ → List ℕ
round v t w =
    let x = slice_index v in
    next_variables t (x 0) (x 1) (x 2) (x 3) (x 4) w

-- the working variables after t rounds, from the words h (6.1.2, steps 2 and 3)
unfoldable pub rounds_from : List ℕ → List ℕ → ℕ → List ℕ
rounds_from h block zero = h
rounds_from h block (suc t) = round (rounds_from h block t) t (W block t)

-- each word of h with its variable of v added (6.1.2, step 4)
abbrev pub add_state : List ℕ → List ℕ → List ℕ
add_state h v =
    let sum = λ (i : ℕ). add_words 32 (slice_index h i) (slice_index v i) in
    sum 0 ∷ sum 1 ∷ sum 2 ∷ sum 3 ∷ sum 4 ∷ []

-- the words after a block, from the words h (6.1.2)
unfoldable pub block_step : List ℕ → List ℕ → List ℕ
block_step h block = add_state h (rounds_from h block 80)

-- the words after the first n blocks of p, from the words h (6.1.2)
abbrev pub blocks_from : List ℕ → List ℕ → ℕ → List ℕ
blocks_from h p n = fold_chunks block_step 64 h p n
