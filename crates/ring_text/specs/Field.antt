-- SPDX-License-Identifier: ISC
-- The fields of a text, each with the byte that ends it and the rest of the text.
use Rattle.std.specs.Prelude.{ℕ, ◌^◌, ◌<◌, List, ◌∷◌, ◌++◌}
use Rattle.std.specs.Fmt.{decimal}
use Rattle.std.specs.Int.NonZero.{non_zero_u32_get}
use Rattle.std.specs.declared.num.NonZeroU32.{NonZeroU32}

-- a number in decimal, the byte that ends it, and the rest
abbrev pub number_then : (n : ℕ) (end : ℕ) (rest : List ℕ) → List ℕ
number_then n end rest = decimal n ++ end ∷ rest

-- an iteration count, the byte that ends it, and the rest
abbrev pub count_then : (c : NonZeroU32) (end : ℕ) (rest : List ℕ) → List ℕ
count_then c end rest = number_then (non_zero_u32_get c) end rest

-- an iteration count fits 32 bits
abbrev pub IsCount : NonZeroU32 → Type 0
IsCount c = non_zero_u32_get c < 2 ^ 32
