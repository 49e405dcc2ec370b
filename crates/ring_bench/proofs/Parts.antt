-- SPDX-License-Identifier: ISC
-- Lemmas on a field as its parts, and on the bytes of these, joined.
use Rattle.std.proofs.Common.{◌≡◌, ℕ, List, [], ◌∷◌, ◌++◌, Option, None, Some, length, refl, sym}
use Rattle.std.proofs.Common.{ap, append_assoc, append-nil, length-append, arith}
use Rattle.std.specs.List.{slice_split, sum}
use Rattle.std.proofs.lemmas.List.Sums.{sum_by_push}
use Rattle.std.proofs.lemmas.List.Splits.{slice_split_none}
use Rattle.hex.specs.Hex.{decode_of}
use Rattle.ring_bench.specs.Cut.{IsFirstCut, IsWithout}
use Rattle.ring_bench.specs.Field.{◌>>=◌, is_comma, parts_bytes, value_of}
use Rattle.ring_bench.proofs.Texts.{IsFirstCut-split}

-- the bytes so far, before those of the parts that are left
abbrev pub behind : List ℕ → Option (List ℕ) → Option (List ℕ)
behind bytes found = found >>= (λ others. Some (bytes ++ others))

pub behind-none : (found : Option (List ℕ)) → found ≡ behind [] found
behind-none None = refl
behind-none (Some others) = refl

behind-more : (bytes piece : List ℕ) (found : Option (List ℕ))
    → behind bytes (behind piece found) ≡ behind (bytes ++ piece) found
behind-more bytes piece None = refl
behind-more bytes piece (Some others) = ap Some (sym (append_assoc bytes piece others))

-- behind so many bytes
module _ (bytes : List ℕ) where
  -- a part moves from the text to the bytes
  pub pieces-next : {piece text part others : List ℕ} → IsFirstCut 44 text part others
      → value_of (decode_of part) ≡ Some piece
      → behind bytes (parts_bytes (slice_split is_comma text))
      ≡ behind (bytes ++ piece) (parts_bytes (slice_split is_comma others))
  pieces-next {piece} {others = others} cut e =
      rw (IsFirstCut-split cut, e)
      (behind-more bytes piece (parts_bytes (slice_split is_comma others)))

  -- the last part ends them
  pub pieces-last : {piece : List ℕ} (text : List ℕ) → IsWithout 44 text
      → value_of (decode_of text) ≡ Some piece
      → behind bytes (parts_bytes (slice_split is_comma text)) ≡ Some (bytes ++ piece)
  pieces-last {piece} text none e =
      rw (slice_split_none is_comma text none, e, append-nil piece) refl

  -- a part that is no hex leaves none
  pub none-next : {text part others : List ℕ} → IsFirstCut 44 text part others
      → value_of (decode_of part) ≡ None
      → behind bytes (parts_bytes (slice_split is_comma text)) ≡ None
  none-next cut e = rw (IsFirstCut-split cut, e) refl

  pub none-last : (text : List ℕ) → IsWithout 44 text → value_of (decode_of text) ≡ None
      → behind bytes (parts_bytes (slice_split is_comma text)) ≡ None
  none-last text none e = rw (slice_split_none is_comma text none, e) refl

-- the bytes have a piece more, and so have the lengths
pub sum-push : (ns bs piece : List ℕ) → sum ns ≡ length bs
    → sum (ns ++ length piece ∷ []) ≡ length (bs ++ piece)
sum-push ns bs piece h =
    omega (arith, h, sum_by_push (λ x. x) ns (length piece), length-append bs piece)
