-- SPDX-License-Identifier: ISC
-- No byte that ends a field stands in the base64 of bytes.
use Rattle.std.proofs.Common.{◌≡◌, ◌++◌, ℕ, true, List, []}
use Rattle.std.proofs.Common.{inl, inr, length, refl, replicate}
use Rattle.std.proofs.lemmas.List.Elements.{All-append, All-nil, All-replicate}
use Rattle.hex.specs.Hex.{IsBytes}
use Rattle.base64.specs.Engines.{standard}
use Rattle.base64.specs.GeneralPurpose.{engine_symbols}
use Rattle.base64.specs.Rfc4648.{encode_symbols, padding_len}
use Rattle.base64.specs.Tables.{all_below}
use Rattle.ring_text.proofs.Base64.{IsWithout-symbols, is_apart}
use Rattle.ring_text.proofs.Cuts.{NotAt}
use Rattle.ring_text.specs.Cut.{IsWithout}
use Rattle.ring_password_hash.specs.Text.{IsEnd, adapted_symbols, written}
use Rattle.ring_password_hash.specs.declared.scheme.Encoding.TheVariants.{Adapted, Base64}
use Rattle.ring_password_hash.specs.declared.scheme.Encoding.TheVariants.{Base64NoPad}

abbrev symbols : List ℕ
symbols = engine_symbols standard

-- what holds of both bytes holds of each that ends a field
at_end : (P : ℕ → Type 0) → P 36 → P 58 → (end : ℕ) → IsEnd end → P end
at_end P dollar colon end (inl is) = rw is dollar
at_end P dollar colon end (inr is) = rw is colon

pub IsWithout-base64 : (end : ℕ) → IsEnd end → (xs : List ℕ) → IsBytes xs
    → IsWithout end (written Base64 xs)
IsWithout-base64 end is xs h =
    All-append (NotAt end) (encode_symbols symbols xs)
    (replicate (padding_len (length xs)) 61)
    (IsWithout-symbols symbols end
    (at_end (λ e. all_below (is_apart symbols e) 64 ≡ true) refl refl end is) xs h)
    (All-replicate (NotAt end) (padding_len (length xs)) 61
    (at_end (λ e. NotAt e 61) refl refl end is))

-- the same without padding
IsWithout-bare : (symbols : List ℕ) (end : ℕ) → all_below (is_apart symbols end) 64 ≡ true
    → (xs : List ℕ) → IsBytes xs → IsWithout end (encode_symbols symbols xs ++ [])
IsWithout-bare symbols end apart xs h =
    All-append (NotAt end) (encode_symbols symbols xs) []
    (IsWithout-symbols symbols end apart xs h) (All-nil (NotAt end))

pub IsWithout-base64_no_pad : (end : ℕ) → IsEnd end → (xs : List ℕ) → IsBytes xs
    → IsWithout end (written Base64NoPad xs)
IsWithout-base64_no_pad end is =
    IsWithout-bare symbols end
    (at_end (λ e. all_below (is_apart symbols e) 64 ≡ true) refl refl end is)

pub IsWithout-adapted : (end : ℕ) → IsEnd end → (xs : List ℕ) → IsBytes xs
    → IsWithout end (written Adapted xs)
IsWithout-adapted end is =
    IsWithout-bare adapted_symbols end
    (at_end (λ e. all_below (is_apart adapted_symbols e) 64 ≡ true) refl refl end is)
