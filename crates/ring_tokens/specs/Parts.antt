-- SPDX-License-Identifier: ISC
-- The parts of a token's text.
use Rattle.std.specs.Prelude.{◌≡◌, ℕ, List, ◌∷◌, ◌++◌, length}
use Rattle.ring.specs.Prelude.{IsTagWithin, hmac_of}
use Rattle.ring_text.specs.Cut.{IsWithout}
use Rattle.ring_tokens.specs.Alg.{algorithm_of}
use Rattle.ring_tokens.specs.Jws.{base64url}
use Rattle.ring_tokens.specs.declared.alg.Alg.{Alg}
use Rattle.ring_tokens.specs.declared.parts.Parts.{Parts}

-- the text is cut at its first two full stops
pub record IsCut (token h p s : List ℕ) : Type 0 where
  pub whole : token ≡ h ++ 46 ∷ (p ++ 46 ∷ s)
  pub header : IsWithout 46 h
  pub payload : IsWithout 46 p

-- the text has no three parts of which the last one is the key's signature of the others
abbrev pub IsUnsigned : Alg → (k token : List ℕ) → Type 0
IsUnsigned a k token = (h p s : List ℕ) → IsCut token h p s
    → IsTagWithin (algorithm_of a) (length (h ++ 46 ∷ p))
    → s ≡ base64url (hmac_of (algorithm_of a) k (h ++ 46 ∷ p)) → ⊥

-- these are its parts, and `input` is what stands before the second full stop
pub record AreParts (token : List ℕ) (p : Parts) : Type 0 where
  pub cut : IsCut token p.header.now p.payload.now p.signature.now
  pub input : p.input.now ≡ p.header.now ++ 46 ∷ p.payload.now
