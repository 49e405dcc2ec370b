-- SPDX-License-Identifier: ISC
-- Tokens that are read with no memory, under headers that are known letter by letter.
use Rattle.std.specs.Prelude.{◌≡◌, ◌≤◌, ◌⊎◌, ℕ, List, drop, length, take}
use Rattle.hex.specs.Hex.{IsBytes}
use Rattle.ring_tokens.specs.Header.{bare_header, older_header, usual_header}
use Rattle.ring_tokens.specs.Jws.{IsTokenUnder, base64url}
use Rattle.ring_tokens.specs.declared.alg.Alg.{Alg}

-- one of the three headers
abbrev pub IsUsual : Alg → (header : List ℕ) → Type 0
IsUsual a header =
    (header ≡ usual_header a) ⊎ (header ≡ older_header a) ⊎ (header ≡ bare_header a)

-- the text of one of them
abbrev pub IsUsualText : Alg → (text : List ℕ) → Type 0
IsUsualText a text = (text ≡ base64url (usual_header a)) ⊎ (text ≡ base64url (older_header a))
    ⊎ (text ≡ base64url (bare_header a))

-- the key signed the token under one of the three headers
pub record IsUsualJws (a : Alg) (k token payload : List ℕ) : Type 0 where
  pub header : List ℕ
  pub usual : IsUsual a header
  pub signed : IsTokenUnder a k header token payload

-- the bytes of a text stand at the start of a buffer, and the rest is as it was
pub record IsDecoded (text : List ℕ) (n : ℕ) (old new : List ℕ) : Type 0 where
  pub within : n ≤ length old
  pub octets : IsBytes (take n new)
  pub is : text ≡ base64url (take n new)
  pub behind : drop n new ≡ drop n old
