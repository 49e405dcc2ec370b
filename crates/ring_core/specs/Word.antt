-- SPDX-License-Identifier: ISC
-- Words of w bits as numbers below 2 ^ w, and their operations (FIPS 180-4, 3.2 and 4.1).
use Rattle.std.specs.Prelude.{ℕ, ◌+◌, ◌-◌, ◌*◌, ◌/◌, ◌%◌, ◌^◌, List, [], ◌∷◌, bit_and, bit_xor}
use Rattle.std.specs.Prelude.{take, drop}
use Rattle.std.specs.declared.num.Wrapping.{Wrapping}
use Rattle.std.specs.Int.Digits.{number_from_digits}

-- x + y (3.2, item 2)
abbrev pub add_words : ℕ → ℕ → ℕ → ℕ
add_words w x y = (x + y) % 2 ^ w

-- x + y_1 + y_2 + .. (3.2, item 2)
abbrev pub more_words : ℕ → ℕ → List ℕ → ℕ
more_words w x [] = x
more_words w x (y ∷ rest) = more_words w (add_words w x y) rest

-- x_1 + x_2 + .. (3.2, item 2)
abbrev pub sum_words : ℕ → List ℕ → ℕ
sum_words w [] = 0
sum_words w (x ∷ rest) = more_words w x rest

-- x ⊕ y, the exclusive or (2.2.2)
infixl 60 ◌⊕◌
abbrev pub ◌⊕◌ : ℕ → ℕ → ℕ
x ⊕ y = bit_xor x y

-- ¬ x (2.2.2)
abbrev pub complement : ℕ → ℕ → ℕ
complement w x = 2 ^ w - 1 - x

-- SHR n x (3.2, item 3)
abbrev pub shr : ℕ → ℕ → ℕ
shr n x = x / 2 ^ n

-- ROTR n x: the high bits move down, and the low n bits above them (3.2, item 4)
abbrev pub rotr : ℕ → ℕ → ℕ → ℕ
rotr w n x = x / 2 ^ n + (x % 2 ^ n) * 2 ^ (w - n)

-- ROTL n x (3.2, items 5 and 6)
abbrev pub rotl : ℕ → ℕ → ℕ → ℕ
rotl w n x = rotr w (w - n) x

-- Ch x y z (4.1.1, 4.1.2, 4.1.3)
abbrev pub choose : ℕ → ℕ → ℕ → ℕ → ℕ
choose w x y z = bit_and x y ⊕ bit_and (complement w x) z

-- Parity x y z (4.1.1)
abbrev pub parity : ℕ → ℕ → ℕ → ℕ
parity x y z = x ⊕ y ⊕ z

-- Maj x y z (4.1.1, 4.1.2, 4.1.3)
abbrev pub majority : ℕ → ℕ → ℕ → ℕ
majority x y z = bit_and x y ⊕ bit_and x z ⊕ bit_and y z

-- the number that bytes write, the highest first (3.1)
abbrev pub big_endian : List ℕ → ℕ
big_endian bytes = number_from_digits 256 bytes

-- word j of a block, of w / 8 bytes (5.2)
abbrev pub word_at : ℕ → List ℕ → ℕ → ℕ
word_at w block j = big_endian (take (w / 8) (drop (j * (w / 8)) block))

-- the number of a word of 32 bits
abbrev pub word_32 : Wrapping ℕ → ℕ
word_32 x = x.0 % 2 ^ 32

-- the number of a word of 32 bits in the low half of a lane
abbrev pub low_32 : ℕ → ℕ
low_32 x = x % 2 ^ 32
