-- SPDX-License-Identifier: ISC
-- Names that are read back from their escapes.
use Rattle.std.proofs.Common.{◌≡◌, ℕ, false, eqb, List, [], ◌∷◌, ◌++◌}
use Rattle.std.proofs.Common.{Option, Some, None, refl, ap, ◌∙◌, append_assoc, inl, inr}
use Rattle.std.proofs.lemmas.Bool.{cases_Bool, eqb-true}
use Rattle.std.specs.Option.{option_map}
use Rattle.ring_sums.specs.Names.{before, escaped, escaped_byte, unescaped}

-- a byte that is no backslash stands for itself
pub unescaped-plain : (byte : ℕ) (rest : List ℕ) → eqb byte 92 ≡ false
    → unescaped (byte ∷ rest) ≡ before (Some byte) (unescaped rest)
unfolding unescaped
unescaped-plain byte [] h = rw h
unescaped-plain byte (next ∷ rest) h = rw h

-- nothing is read yet
pub read-none : (name : Option (List ℕ)) → name ≡ option_map (λ bytes. [] ++ bytes) name
read-none None = refl
read-none (Some bytes) = refl

-- a byte is read behind a front
pub read-more : (front : List ℕ) (byte : ℕ) (rest : Option (List ℕ))
    → option_map (λ bytes. front ++ bytes) (before (Some byte) rest)
    ≡ option_map (λ bytes. (front ++ byte ∷ []) ++ bytes) rest
read-more front byte None = refl
read-more front byte (Some bytes) = rw append_assoc

-- a byte is one of those that are escaped, or stands for itself
pub escaped-cases : (byte : ℕ) (P : ℕ → List ℕ → Type 0) → P 92 (92 ∷ 92 ∷ [])
    → P 10 (92 ∷ 110 ∷ []) → P 13 (92 ∷ 114 ∷ [])
    → (eqb byte 92 ≡ false → eqb byte 10 ≡ false → eqb byte 13 ≡ false → P byte (byte ∷ []))
    → P byte (escaped_byte byte)
escaped-cases byte P backslash feed return plain = elim (cases_Bool (eqb byte 92)) [
  | inl is ↦ rw (eqb-true byte 92 is) backslash
  | inr other ↦ elim (cases_Bool (eqb byte 10)) [
    | inl is ↦ rw (eqb-true byte 10 is) feed
    | inr other10 ↦ elim (cases_Bool (eqb byte 13)) [
      | inl is ↦ rw (eqb-true byte 13 is) return
      | inr other13 ↦ rw (other, other10, other13) (plain other other10 other13)
    ]
  ]
]

-- the escape of a byte reads as the byte
unescaped-byte : (byte : ℕ) (rest : List ℕ)
    → unescaped (escaped_byte byte ++ rest) ≡ before (Some byte) (unescaped rest)
unfolding unescaped
unescaped-byte byte rest =
    escaped-cases byte
    (λ b escape. unescaped (escape ++ rest) ≡ before (Some b) (unescaped rest)) refl refl refl
    (λ other _ _. unescaped-plain byte rest other)

-- a name reads back from its escapes
pub unescaped-escaped : (name : List ℕ) → unescaped (escaped name) ≡ Some name
unfolding unescaped
unescaped-escaped [] = refl
unescaped-escaped (byte ∷ name) =
    unescaped-byte byte (escaped name)
    ∙ ap (before (Some byte)) (unescaped-escaped name)
