-- SPDX-License-Identifier: ISC
-- The block function of SHA-2 over the numbers of a family (FIPS 180-4, 6.2.2 and 6.4.2).
use Rattle.std.specs.Prelude.{◌≡◌, ◌⊎◌, ℕ, zero, suc, ◌-◌, ◌*◌, ◌/◌, ◌%◌, ◌^◌, List, [], ◌∷◌}
use Rattle.std.specs.Prelude.{slice_index, nat_lt, if◌then◌else◌, map}
use Rattle.std.specs.declared.num.Wrapping.{Wrapping}
use Rattle.ring_core.specs.Schedule.{listed_at}
use Rattle.ring_core.specs.Chunks.{fold_chunks}
use Rattle.ring_core.specs.Word.{◌⊕◌, sum_words, add_words, choose, majority, rotr, shr, word_at}

-- what SHA-256 and the three algorithms of 64-bit words differ in
pub record Family : Type 0 where
  -- w, the bits of a word (1)
  pub bits : ℕ
  -- the rotations of Σ0 and Σ1 (4.1.2, 4.1.3)
  pub big_0 : ℕ × ℕ × ℕ
  pub big_1 : ℕ × ℕ × ℕ
  -- the two rotations and the shift of σ0 and σ1 (4.1.2, 4.1.3)
  pub small_0 : ℕ × ℕ × ℕ
  pub small_1 : ℕ × ℕ × ℕ
  -- how many rounds a block takes (6.2.2, 6.4.2, step 3)
  pub rounds : ℕ
  -- K (4.2.2, 4.2.3)
  pub constants : List ℕ

-- K of SHA-256: K 0, .., K 63 (4.2.2)
unfoldable pub constants_256 : List ℕ
constants_256 =
    0x428a2f98 ∷ 0x71374491 ∷ 0xb5c0fbcf ∷ 0xe9b5dba5 ∷
    0x3956c25b ∷ 0x59f111f1 ∷ 0x923f82a4 ∷ 0xab1c5ed5 ∷
    0xd807aa98 ∷ 0x12835b01 ∷ 0x243185be ∷ 0x550c7dc3 ∷
    0x72be5d74 ∷ 0x80deb1fe ∷ 0x9bdc06a7 ∷ 0xc19bf174 ∷
    0xe49b69c1 ∷ 0xefbe4786 ∷ 0x0fc19dc6 ∷ 0x240ca1cc ∷
    0x2de92c6f ∷ 0x4a7484aa ∷ 0x5cb0a9dc ∷ 0x76f988da ∷
    0x983e5152 ∷ 0xa831c66d ∷ 0xb00327c8 ∷ 0xbf597fc7 ∷
    0xc6e00bf3 ∷ 0xd5a79147 ∷ 0x06ca6351 ∷ 0x14292967 ∷
    0x27b70a85 ∷ 0x2e1b2138 ∷ 0x4d2c6dfc ∷ 0x53380d13 ∷
    0x650a7354 ∷ 0x766a0abb ∷ 0x81c2c92e ∷ 0x92722c85 ∷
    0xa2bfe8a1 ∷ 0xa81a664b ∷ 0xc24b8b70 ∷ 0xc76c51a3 ∷
    0xd192e819 ∷ 0xd6990624 ∷ 0xf40e3585 ∷ 0x106aa070 ∷
    0x19a4c116 ∷ 0x1e376c08 ∷ 0x2748774c ∷ 0x34b0bcb5 ∷
    0x391c0cb3 ∷ 0x4ed8aa4a ∷ 0x5b9cca4f ∷ 0x682e6ff3 ∷
    0x748f82ee ∷ 0x78a5636f ∷ 0x84c87814 ∷ 0x8cc70208 ∷
    0x90befffa ∷ 0xa4506ceb ∷ 0xbef9a3f7 ∷ 0xc67178f2 ∷ []

-- K of SHA-512 and its truncations: K 0, .., K 79 (4.2.3)
unfoldable pub constants_512 : List ℕ
constants_512 =
    0x428a2f98d728ae22 ∷ 0x7137449123ef65cd ∷ 0xb5c0fbcfec4d3b2f ∷ 0xe9b5dba58189dbbc ∷
    0x3956c25bf348b538 ∷ 0x59f111f1b605d019 ∷ 0x923f82a4af194f9b ∷ 0xab1c5ed5da6d8118 ∷
    0xd807aa98a3030242 ∷ 0x12835b0145706fbe ∷ 0x243185be4ee4b28c ∷ 0x550c7dc3d5ffb4e2 ∷
    0x72be5d74f27b896f ∷ 0x80deb1fe3b1696b1 ∷ 0x9bdc06a725c71235 ∷ 0xc19bf174cf692694 ∷
    0xe49b69c19ef14ad2 ∷ 0xefbe4786384f25e3 ∷ 0x0fc19dc68b8cd5b5 ∷ 0x240ca1cc77ac9c65 ∷
    0x2de92c6f592b0275 ∷ 0x4a7484aa6ea6e483 ∷ 0x5cb0a9dcbd41fbd4 ∷ 0x76f988da831153b5 ∷
    0x983e5152ee66dfab ∷ 0xa831c66d2db43210 ∷ 0xb00327c898fb213f ∷ 0xbf597fc7beef0ee4 ∷
    0xc6e00bf33da88fc2 ∷ 0xd5a79147930aa725 ∷ 0x06ca6351e003826f ∷ 0x142929670a0e6e70 ∷
    0x27b70a8546d22ffc ∷ 0x2e1b21385c26c926 ∷ 0x4d2c6dfc5ac42aed ∷ 0x53380d139d95b3df ∷
    0x650a73548baf63de ∷ 0x766a0abb3c77b2a8 ∷ 0x81c2c92e47edaee6 ∷ 0x92722c851482353b ∷
    0xa2bfe8a14cf10364 ∷ 0xa81a664bbc423001 ∷ 0xc24b8b70d0f89791 ∷ 0xc76c51a30654be30 ∷
    0xd192e819d6ef5218 ∷ 0xd69906245565a910 ∷ 0xf40e35855771202a ∷ 0x106aa07032bbd1b8 ∷
    0x19a4c116b8d2d0c8 ∷ 0x1e376c085141ab53 ∷ 0x2748774cdf8eeb99 ∷ 0x34b0bcb5e19b48a8 ∷
    0x391c0cb3c5c95a63 ∷ 0x4ed8aa4ae3418acb ∷ 0x5b9cca4f7763e373 ∷ 0x682e6ff3d6b2b8a3 ∷
    0x748f82ee5defb2fc ∷ 0x78a5636f43172f60 ∷ 0x84c87814a1f0ab72 ∷ 0x8cc702081a6439ec ∷
    0x90befffa23631e28 ∷ 0xa4506cebde82bde9 ∷ 0xbef9a3f7b2c67915 ∷ 0xc67178f2e372532b ∷
    0xca273eceea26619c ∷ 0xd186b8c721c0c207 ∷ 0xeada7dd6cde0eb1e ∷ 0xf57d4f7fee6ed178 ∷
    0x06f067aa72176fba ∷ 0x0a637dc5a2c898a6 ∷ 0x113f9804bef90dae ∷ 0x1b710b35131c471b ∷
    0x28db77f523047d84 ∷ 0x32caab7b40c72493 ∷ 0x3c9ebe0a15c9bebc ∷ 0x431d67c49c100d4c ∷
    0x4cc5d4becb3e42b6 ∷ 0x597f299cfc657e2a ∷ 0x5fcb6fab3ad6faec ∷ 0x6c44198c4a475817 ∷ []

-- SHA-256 (4.1.2, 4.2.2, 6.2)
abbrev pub family_256 : Family
family_256 = record {
  bits = 32;
  big_0 = (2, 13, 22);
  big_1 = (6, 11, 25);
  small_0 = (7, 18, 3);
  small_1 = (17, 19, 10);
  rounds = 64;
  constants = constants_256;
}

-- SHA-512 and its truncations (4.1.3, 4.2.3, 6.4)
abbrev pub family_512 : Family
family_512 = record {
  bits = 64;
  big_0 = (28, 34, 39);
  big_1 = (14, 18, 41);
  small_0 = (1, 8, 7);
  small_1 = (19, 61, 6);
  rounds = 80;
  constants = constants_512;
}

-- the numbers of a type of words are those of a family
pub record AreNumbersOf (f : Family) (bits rounds : ℕ) (big_0 big_1 small_0 small_1 : ℕ × ℕ × ℕ)
    : Type 0 where
  pub which : (f ≡ family_256) ⊎ (f ≡ family_512)
  pub bits_are : bits ≡ f.bits
  pub big_0_is : big_0 ≡ f.big_0
  pub big_1_is : big_1 ≡ f.big_1
  pub small_0_is : small_0 ≡ f.small_0
  pub small_1_is : small_1 ≡ f.small_1
  pub rounds_are : rounds ≡ f.rounds

-- ROTR n_0 x ⊕ ROTR n_1 x ⊕ ROTR n_2 x
abbrev pub three_rotations : ℕ → ℕ × ℕ × ℕ → ℕ → ℕ
three_rotations w n x = rotr w n.0 x ⊕ rotr w n.1 x ⊕ rotr w n.2 x

-- ROTR n_0 x ⊕ ROTR n_1 x ⊕ SHR n_2 x
abbrev pub two_rotations_and_shift : ℕ → ℕ × ℕ × ℕ → ℕ → ℕ
two_rotations_and_shift w n x = rotr w n.0 x ⊕ rotr w n.1 x ⊕ shr n.2 x

-- Σ0 x (4.1.2, 4.1.3)
abbrev pub Σ0 : Family → ℕ → ℕ
Σ0 f x = three_rotations f.bits f.big_0 x

-- Σ1 x (4.1.2, 4.1.3)
abbrev pub Σ1 : Family → ℕ → ℕ
Σ1 f x = three_rotations f.bits f.big_1 x

-- σ0 x (4.1.2, 4.1.3)
abbrev pub σ0 : Family → ℕ → ℕ
σ0 f x = two_rotations_and_shift f.bits f.small_0 x

-- σ1 x (4.1.2, 4.1.3)
abbrev pub σ1 : Family → ℕ → ℕ
σ1 f x = two_rotations_and_shift f.bits f.small_1 x

-- σ1 W(t-2) + W(t-7) + σ0 W(t-15) + W(t-16) (6.2.2, 6.4.2, step 1)
abbrev pub scheduled : Family → ℕ → ℕ → ℕ → ℕ → ℕ
scheduled f w2 w7 w15 w16 = sum_words f.bits (σ1 f w2 ∷ w7 ∷ σ0 f w15 ∷ w16 ∷ [])

-- a word over the list ws of the words before it
abbrev pub scheduled_at : Family → List ℕ → ℕ → ℕ
scheduled_at f ws t =
    let w = slice_index ws in
    scheduled f (w (t - 2)) (w (t - 7)) (w (t - 15)) (w (t - 16))

-- word t of the schedule, from the words before it (6.2.2, 6.4.2, step 1)
abbrev pub next_word : Family → List ℕ → List ℕ → ℕ → ℕ
next_word f block ws t = if nat_lt t 16 then word_at f.bits block t else scheduled_at f ws t

-- W t of a block (6.2.2, 6.4.2, step 1)
unfoldable pub W : Family → List ℕ → ℕ → ℕ
W f block = listed_at (next_word f block)

-- K t + W t (6.2.2, 6.4.2, step 3)
abbrev pub ready_sum : Family → List ℕ → ℕ → ℕ
ready_sum f block t = add_words f.bits (slice_index f.constants t) (W f block t)

-- T₁ = h + Σ1 e + Ch e f g + K + W (6.2.2, 6.4.2, step 3)
abbrev pub temp1 : Family → (e f' g h k w : ℕ) → ℕ
temp1 f e f' g h k w = sum_words f.bits (h ∷ Σ1 f e ∷ choose f.bits e f' g ∷ k ∷ w ∷ [])

-- T₂ = Σ0 a + Maj a b c (6.2.2, 6.4.2, step 3)
abbrev pub temp2 : Family → (a b c : ℕ) → ℕ
temp2 f a b c = sum_words f.bits (Σ0 f a ∷ majority a b c ∷ [])

-- the working variables after a round, from a to h (6.2.2, 6.4.2, step 3)
abbrev pub next_variables : Family → (a b c d e f' g h k w : ℕ) → List ℕ
next_variables f a b c d e f' g h k w =
    let T₁ = temp1 f e f' g h k w in
    let T₂ = temp2 f a b c in
    add_words f.bits T₁ T₂ ∷ a ∷ b ∷ c ∷ add_words f.bits d T₁ ∷ e ∷ f' ∷ g ∷ []

-- the same over the list v of the variables
unfoldable pub round : Family → List ℕ → ℕ → ℕ → List ℕ
round family v k w =
    let x = slice_index v in
    next_variables family (x 0) (x 1) (x 2) (x 3) (x 4) (x 5) (x 6) (x 7) k w

-- the working variables after t rounds, from the words h (6.2.2, 6.4.2, steps 2 and 3)
unfoldable pub rounds_from : Family → List ℕ → List ℕ → ℕ → List ℕ
rounds_from f h block zero = h
rounds_from f h block (suc t) =
    round f (rounds_from f h block t) (slice_index f.constants t) (W f block t)

-- each word of h with its variable of v added (6.2.2, 6.4.2, step 4)
abbrev pub add_state : ℕ → List ℕ → List ℕ → List ℕ
add_state w h v =
    let sum = λ (i : ℕ). add_words w (slice_index h i) (slice_index v i) in
    sum 0 ∷ sum 1 ∷ sum 2 ∷ sum 3 ∷ sum 4 ∷ sum 5 ∷ sum 6 ∷ sum 7 ∷ []

-- the words after a block, from the words h (6.2.2, 6.4.2)
unfoldable pub block_step : Family → List ℕ → List ℕ → List ℕ
block_step f h block = add_state f.bits h (rounds_from f h block f.rounds)

-- the bytes of a block of sixteen words (5.2)
abbrev pub block_len : Family → ℕ
block_len f = 16 * (f.bits / 8)

-- the words after the first n blocks of p, from the words h (6.2.2, 6.4.2)
abbrev pub blocks_from : Family → List ℕ → List ℕ → ℕ → List ℕ
blocks_from f h p n = fold_chunks (block_step f) (block_len f) h p n

-- the numbers of a state of 32-bit words
abbrev pub words_32 : List (Wrapping ℕ) → List ℕ
words_32 state = map (λ x. x.0 % 2 ^ 32) state

-- the numbers of a state of 64-bit words
abbrev pub words_64 : List (Wrapping ℕ) → List ℕ
words_64 state = map (λ x. x.0 % 2 ^ 64) state
