-- SPDX-License-Identifier: ISC
-- SCRAM's two keys as one list of bytes.
use Rattle.std.proofs.Common.{◌≡◌, ◌++◌, ◌∙◌, ℕ, true, List, [], ap}
use Rattle.std.proofs.Common.{append-nil, arith, drop, inr, length, refl, sym, take}
use Rattle.std.proofs.lemmas.List.{drop_at, length-take-le, take_at}
use borrow.Rule.Slice.PartMut.{put_mid}
use Rattle.hex.specs.Hex.{IsBytes}
use Rattle.ring_text.proofs.Base64.{bytes_front}
use Rattle.ring_text.specs.Cut.{IsWithout}
use Rattle.ring_password_hash.specs.Text.{field_then, kept_by, written}
use Rattle.ring_password_hash.specs.declared.scheme.Encoding.TheVariants.{Base64}
use Rattle.ring_password_hash.proofs.Fields.{field_then-injective}
use Rattle.ring_password_hash.proofs.Pieces.{take-put}
use Rattle.ring_password_hash.proofs.Symbols.{IsWithout-base64}

-- the first key has no colon
pub first_apart : (xs : List ℕ) → IsBytes xs → IsWithout 58 (written Base64 (take 32 xs))
first_apart xs h = IsWithout-base64 58 (inr refl) (take 32 xs) (bytes_front 32 xs h)

-- what is read of a text that two keys have is theirs
pub keys_read : (a xs rest : List ℕ) {text : List ℕ} → IsBytes a → IsBytes xs
    → text ≡ field_then Base64 a 58 rest → text ≡ kept_by true Base64 xs
    → (a ≡ take 32 xs) × (rest ≡ written Base64 (drop 32 xs))
keys_read a xs rest ha hx read e =
    field_then-injective Base64 58 ha (bytes_front 32 xs hx) (IsWithout-base64 58 (inr refl) a ha)
    (first_apart xs hx) (sym read ∙ e)

-- the second key was copied behind the first one
module _ (out key piece : List ℕ) {text rest : List ℕ} (room : length out ≡ 1024)
    (room_key : length key ≡ 1024) (copied : piece ≡ take 32 key)
    (read : text ≡ field_then Base64 (take 32 out) 58 rest)
    (last : rest ≡ written Base64 (take 32 key)) where
  both : take 64 (put_mid 32 32 out piece) ≡ take 32 out ++ take 32 key
  both =
      let len = length-take-le 32 key (omega arith) in
      let whole = copied ∙ sym (append-nil (take 32 key)) in
      take-put 32 32 32 out (take 32 key) [] (whole, sym len) (omega arith)

  pub keys_copied : text ≡ kept_by true Base64 (take 64 (put_mid 32 32 out piece))
  keys_copied =
      let first = take 32 out in
      let second = take 32 key in
      let len = length-take-le 32 out (omega arith) in
      rw (both, take_at first second 32 len, drop_at first second 32 len)
      (read ∙ ap (field_then Base64 (take 32 out) 58) last)
