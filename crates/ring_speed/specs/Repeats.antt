-- SPDX-License-Identifier: ISC
-- Work that is done again and again, each time on what the time before gave.
use Rattle.std.specs.Prelude.{ℕ, zero, suc, ◌-◌, List, ◌++◌, drop, length, replicate, take}
use Rattle.std.specs.Fn.{iterate}
use Rattle.std.specs.Int.{bytes_high_first}
use Rattle.ring_core.specs.Word.{big_endian}

-- the message m with f m in the place of as many of its first bytes
abbrev pub replaced_front : (List ℕ → List ℕ) → List ℕ → List ℕ
replaced_front f m = f m ++ drop (length (f m)) m

-- the message after so many steps of that, from zeros
abbrev pub message_after : (List ℕ → List ℕ) → (len steps : ℕ) → List ℕ
message_after f len steps = iterate (replaced_front f) steps (replicate len 0)

-- the number that the first eight bytes write, the highest first
abbrev pub front : List ℕ → ℕ
front m = big_endian (take 8 m)

-- the block of this number: four bytes, the highest first, and zeros
abbrev pub numbered : (len number : ℕ) → List ℕ
numbered len number = bytes_high_first 4 number ++ replicate (len - 4) 0

-- the words after so many steps, from the words h: in each the block function f runs twice over the
-- block of the step's number
unfoldable pub words_after_steps : (List ℕ → List ℕ → List ℕ) → (len : ℕ) → List ℕ
    → (steps : ℕ) → List ℕ
words_after_steps f len h zero = h
words_after_steps f len h (suc k) =
    f (f (words_after_steps f len h k) (numbered len k)) (numbered len k)
