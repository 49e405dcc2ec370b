-- SPDX-License-Identifier: ISC
-- Lists of bytes.
use Rattle.std.specs.Prelude.{ℕ, List, [], ◌∷◌}
use Rattle.ring_core.specs.Word.{◌⊕◌}

-- the items of the first list, each with its item of the second xored in, as far as there is one
abbrev pub xor_lists : List ℕ → List ℕ → List ℕ
xor_lists [] ys = []
xor_lists (x ∷ xs) [] = x ∷ xs
xor_lists (x ∷ xs) (y ∷ ys) = (x ⊕ y) ∷ xor_lists xs ys
