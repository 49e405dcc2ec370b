-- SPDX-License-Identifier: ISC
-- A token is written part by part, and its length.
use Rattle.std.proofs.Common.{◌≡◌, ◌≤◌, ◌∙◌, ℕ, ◌+◌, List, [], ◌∷◌, ◌++◌}
use Rattle.std.proofs.Common.{ap, append_assoc, arith, drop, length, sym, take}
use Rattle.std.proofs.lemmas.List.{append-nil, drop_all, length-append, length-drop, take_at}
use Rattle.std.proofs.lemmas.Slice.{drop-append-drop}
use Rattle.base64.specs.Engines.{url_safe_no_pad}
use Rattle.base64.specs.Rfc4648.{unpadded_len}
use Rattle.ring_text.proofs.Base64.{length-encode_of}
use Rattle.ring_tokens.specs.Alg.{hash_len}
use Rattle.ring_tokens.specs.Header.{usual_header}
use Rattle.ring_tokens.specs.Jws.{base64url, compact, signing_input, usual_token_len}
use Rattle.ring_tokens.specs.Put.{IsPut}
use Rattle.ring_tokens.specs.declared.alg.Alg.{Alg}
use Rattle.ring_tokens.specs.declared.alg.Alg.TheVariants.{Hs256, Hs384, Hs512}

pub length_base64url : (m : List ℕ) → length (base64url m) ≡ unpadded_len (length m)
length_base64url = length-encode_of url_safe_no_pad

-- the usual header has 36 bytes as base64url
pub length_usual : (a : Alg) → length (base64url (usual_header a)) ≡ 36
length_usual Hs256 = length_base64url (usual_header Hs256)
length_usual Hs384 = length_base64url (usual_header Hs384)
length_usual Hs512 = length_base64url (usual_header Hs512)

pub length_input : (a : Alg) (p : List ℕ)
    → length (signing_input (usual_header a) p) ≡ 37 + unpadded_len (length p)
length_input a p =
    let one = length-append (base64url (usual_header a)) (46 ∷ base64url p) in
    omega (arith, one, length_usual a, length_base64url p)

-- a token is what is signed, a full stop and the signature
pub compact_parts : (h p s : List ℕ) → signing_input h p ++ 46 ∷ base64url s ≡ compact h p s
compact_parts h p s = append_assoc (base64url h) (46 ∷ base64url p) (46 ∷ base64url s)

pub length_compact : (a : Alg) (p s : List ℕ)
    → length (compact (usual_header a) p s) ≡ 38 + unpadded_len (length p) + unpadded_len (length s)
length_compact a p s =
    let whole = ap length (compact_parts (usual_header a) p s) in
    let one = length-append (signing_input (usual_header a) p) (46 ∷ base64url s) in
    omega (arith, whole, one, length_input a p, length_base64url s)

-- a piece at the start of a buffer
pub put_first : {end : ℕ} {piece old new : List ℕ} → IsPut 0 end piece old new
    → (end ≡ length piece) × (new ≡ piece ++ drop end old)
put_first put = (omega (arith, put.place), put.bytes)

-- a piece behind another
pub put_next : {n end : ℕ} (old front piece : List ℕ) {mid new : List ℕ}
    → (n ≡ length front) × (mid ≡ front ++ drop n old) → IsPut n end piece mid new
    → (end ≡ length (front ++ piece)) × (new ≡ (front ++ piece) ++ drop end old)
put_next {n} {end} old front piece {mid} {new} is put =
    let long = length-append front piece in
    let first : take n mid ≡ front = ap (take n) is.1 ∙ take_at front (drop n old) n (sym is.0) in
    let rest : drop end mid ≡ drop end old =
    ap (drop end) is.1 ∙ drop-append-drop n old front end (omega (arith, put.place)) (sym is.0) in (
      omega (arith, put.place, is.0, long),
      put.bytes ∙ ap (λ l. l ++ (piece ++ drop end mid)) first
          ∙ ap (λ l. front ++ (piece ++ l)) rest ∙ sym (append_assoc front piece (drop end old)),
    )

-- what was written over the start of a buffer leaves its length
pub length_over : (front : List ℕ) (n : ℕ) (old new : List ℕ)
    → (n ≡ length front) × (new ≡ front ++ drop n old) → n ≤ length old → length new ≡ length old
length_over front n old new is fits =
    ap length is.1 ∙ length-append front (drop n old)
    ∙ omega (arith, length-drop n old, is.0, fits)

-- what is signed was written to a buffer that has room for the token
pub record IsLaid (a : Alg) (p old mid : List ℕ) (at : ℕ) : Type 0 where
  pub place : at ≡ length (signing_input (usual_header a) p)
  pub bytes : mid ≡ signing_input (usual_header a) p ++ drop at old
  pub room : usual_token_len a (length p) ≤ length old

-- behind it there is room for a full stop and the signature
module _ {a : Alg} {p old mid : List ℕ} {at : ℕ} (laid : IsLaid a p old mid at) where
  laid_len : length (signing_input (usual_header a) p) ≡ 37 + unpadded_len (length p)
  laid_len = length_input a p

  pub room_stop : at + 1 ≤ length mid
  room_stop =
      let fits : at ≤ length old = omega (arith, laid.place, laid_len, laid.room) in
      let over = length_over (signing_input (usual_header a) p) at old mid
      (laid.place, laid.bytes) fits in
      omega (arith, over, laid.place, laid_len, laid.room)

  pub room_signature : (s : List ℕ) {new : List ℕ} {end : ℕ} → IsPut at end (46 ∷ []) mid new
      → length s ≡ hash_len a → end + unpadded_len (length s) ≤ length new
  room_signature s {new} {end} put len =
      let input = signing_input (usual_header a) p in
      let two = put_next old input (46 ∷ []) (laid.place, laid.bytes) put in
      let fits : end ≤ length old =
      omega (arith, put.place, laid.place, laid_len, laid.room) in
      let over = length_over (input ++ 46 ∷ []) end old new two fits in
      omega (arith, over, put.place, laid.place, laid_len, laid.room, len)

  pub signed_end : (s : List ℕ) {new out : List ℕ} {end last : ℕ} → IsPut at end (46 ∷ []) mid new
      → IsPut end last (base64url s) new out → length s ≡ hash_len a
      → last ≡ usual_token_len a (length p)
  signed_end s put more len =
      omega (arith, more.place, put.place, laid.place, laid_len, length_base64url s, len)

-- a buffer of the token's length is the token
pub whole_over : (token old new : List ℕ) (n : ℕ) → new ≡ token ++ drop n old → length old ≤ n
    → new ≡ token
whole_over token old new n is all =
    is ∙ ap (λ l. token ++ l) (drop_all n old all) ∙ append-nil token
