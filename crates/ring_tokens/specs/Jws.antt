-- SPDX-License-Identifier: ISC
-- JSON Web Signatures in the compact serialisation, under HMAC (RFC 7515, RFC 7518).
use Rattle.std.specs.Prelude.{◌≡◌, ℕ, ◌+◌, List, ◌∷◌, ◌++◌, length}
use Rattle.hex.specs.Hex.{IsBytes}
use Rattle.base64.specs.Engines.{url_safe_no_pad}
use Rattle.base64.specs.GeneralPurpose.{encode_of}
use Rattle.base64.specs.Rfc4648.{unpadded_len}
use Rattle.ring.specs.Prelude.{IsTagWithin, KeyStandsFor, hmac_of}
use Rattle.ring_tokens.specs.Alg.{algorithm_of, text_len}
use Rattle.ring_tokens.specs.Header.{IsHeader, usual_header}
use Rattle.ring_tokens.specs.declared.alg.Alg.{Alg}
use Rattle.ring_tokens.specs.declared.key.Key.{Key}

-- BASE64URL(OCTETS): RFC 4648, section 5, without padding (RFC 7515, section 2)
abbrev pub base64url : List ℕ → List ℕ
base64url octets = encode_of url_safe_no_pad octets

-- the text is the base64url of bytes: no padding, and no bits that no byte has
pub record IsBase64url (text : List ℕ) : Type 0 where
  pub octets : List ℕ
  pub are : IsBytes octets
  pub is : text ≡ base64url octets

-- a part of a token, a full stop, and the rest
abbrev pub part_then : (octets rest : List ℕ) → List ℕ
part_then octets rest = base64url octets ++ 46 ∷ rest

-- JWS Signing Input: BASE64URL(UTF8(JWS Protected Header)) || '.' || BASE64URL(JWS Payload)
-- (section 2)
abbrev pub signing_input : (header payload : List ℕ) → List ℕ
signing_input header payload = part_then header (base64url payload)

-- JWS Signature: HMAC of the signing input (RFC 7518, section 3.2)
abbrev pub signature_of : Alg → (k header payload : List ℕ) → List ℕ
signature_of a k header payload = hmac_of (algorithm_of a) k (signing_input header payload)

-- BASE64URL(UTF8(JWS Protected Header)) || '.' || BASE64URL(JWS Payload) || '.' ||
-- BASE64URL(JWS Signature) (section 3.1)
abbrev pub compact : (header payload signature : List ℕ) → List ℕ
compact header payload signature = part_then header (part_then payload (base64url signature))

-- HMAC admits the signing input
abbrev pub CanSign : Alg → (header payload : List ℕ) → Type 0
CanSign a header payload = IsTagWithin (algorithm_of a) (length (signing_input header payload))

-- the token that the key signs of a header and a payload
pub record IsTokenUnder (a : Alg) (k header token payload : List ℕ) : Type 0 where
  pub octets : IsBytes payload
  pub parts : token ≡ compact header payload (signature_of a k header payload)
  pub within : CanSign a header payload

-- the token is valid under the algorithm and the key, and has the payload (section 5.2)
pub record IsJws (a : Alg) (k token payload : List ℕ) : Type 0 where
  pub header : List ℕ
  pub header_octets : IsBytes header
  -- steps 1, 2, 6, 7 and 8
  pub signed : IsTokenUnder a k header token payload
  -- steps 3 to 5
  pub accepted : IsHeader a header

-- the token that is written
abbrev pub usual_token : Alg → (k payload : List ℕ) → List ℕ
usual_token a k payload =
    compact (usual_header a) payload (signature_of a k (usual_header a) payload)

-- its length, where the payload has n bytes: the usual header has 36 as base64url
abbrev pub usual_token_len : Alg → (n : ℕ) → ℕ
usual_token_len a n = 36 + 1 + unpadded_len n + 1 + text_len a

-- the algorithm of a key
abbrev pub alg_of : Key → Alg
alg_of key = key.alg

-- the key stands for the bytes k
abbrev pub IsKey : Key → List ℕ → Type 0
IsKey key k = KeyStandsFor key.key k
