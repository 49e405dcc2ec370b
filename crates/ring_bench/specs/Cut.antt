-- SPDX-License-Identifier: ISC
-- A text cut at a byte.
use Rattle.std.specs.Prelude.{◌≡◌, ◌==◌, ℕ, false, List, ◌∷◌, ◌++◌, All}

-- the byte is nowhere in the text
abbrev pub IsWithout : ℕ → List ℕ → Type 0
IsWithout byte text = All (λ b. (b == byte) ≡ false) text

-- the text is cut at the first such byte
pub record IsFirstCut (byte : ℕ) (text before behind : List ℕ) : Type 0 where
  pub whole : text ≡ before ++ byte ∷ behind
  pub first : IsWithout byte before
