-- SPDX-License-Identifier: ISC
-- The items of a text, one after another.
use Rattle.std.proofs.Common.{◌≡◌, ◌==◌, ℕ, ◌^◌, ◌<◌, true, false, Bool, List, [], ◌∷◌}
use Rattle.std.proofs.Common.{ap, arith, drop, refl, subst, sym, ◌++◌, ◌∙◌}
use Rattle.std.specs.Prelude.{◌||◌, ◌↔◌}
use Rattle.std.specs.Char.{digit_value}
use Rattle.std.specs.Fmt.{decimal}
use Rattle.std.specs.List.{list_any}
use Rattle.std.specs.Str.{bytes_eq}
use Rattle.std.specs.Str.Parse.{AllDigits}
use Rattle.std.proofs.lemmas.Bool.{eq-eqb, ne_eqb}
use Rattle.std.proofs.lemmas.Fmt.{decimal_injective, decimal_is_IsNumeral}
use Rattle.std.proofs.lemmas.Grind.{common_steps}
use Rattle.std.proofs.lemmas.List.{append-nil}
use Rattle.std.proofs.lemmas.List.Elements.{All-nil, All-cons}
use Rattle.std.proofs.lemmas.List.Splits.{slice_split_at, slice_split_none}
use Rattle.std.proofs.lemmas.Slice.Eq.{bytes_eq-Decides}
use Rattle.ring_text.specs.Cut.{IsFirstCut, IsWithout}
use Rattle.ring_text.proofs.Cuts.{NotAt, cut_same}
use Rattle.ring_tokens.specs.Webhook.{has_item, items_of, stripe_message, timestamp_then}
use Rattle.ring_tokens.specs.declared.webhook.Timestamp.{Timestamp}

pub items_cut : {text before behind : List ℕ} → IsFirstCut 44 text before behind
    → items_of text ≡ before ∷ items_of behind
items_cut {text} {before} {behind} cut =
    ap items_of cut.whole
    ∙ slice_split_at (λ b. b == 44) before 44 behind cut.first (eq-eqb 44 44 refl)

pub items_none : (text : List ℕ) → IsWithout 44 text → items_of text ≡ text ∷ []
items_none text h = slice_split_none (λ b. b == 44) text h

same_item : (a b : List ℕ) → a ≡ b → bytes_eq a b ≡ true
same_item a b e = grind (arith, common_steps, bytes_eq-Decides)

other_item : (a b : List ℕ) → (a ≡ b → ⊥) → bytes_eq a b ≡ false
other_item a b ne = grind (arith, common_steps, bytes_eq-Decides)

-- no digit is a comma
abbrev IsDigit : ℕ → Type 0
IsDigit d = digit_value d < 10

no_comma : IsDigit 44 → ⊥
no_comma small = omega (arith, small)

digits_apart : (ds : List ℕ) → AllDigits 10 ds → IsWithout 44 ds
digits_apart [] h = All-nil (NotAt 44)
digits_apart (d ∷ ds) h =
    All-cons (NotAt 44) d ds (ne_eqb d 44 (λ same. no_comma (subst IsDigit same h.0)))
    (digits_apart ds h.1)

pub decimal_apart : (n : ℕ) → n < 2 ^ 64 → IsWithout 44 (decimal n)
decimal_apart n h = digits_apart (decimal n) (decimal_is_IsNumeral n (omega (arith, h))).0.1

-- a time and what follows are known from the whole
timestamp_same : (m n : ℕ) (s t : List ℕ) → m < 2 ^ 64 → n < 2 ^ 64
    → timestamp_then m s ≡ timestamp_then n t → (m ≡ n) × (s ≡ t)
timestamp_same m n s t hm hn e =
    let cut = cut_same 44 (decimal m) (decimal n) s t (decimal_apart m hm) (decimal_apart n hn)
    (ap (drop 2) e) in
    (decimal_injective m n (omega (arith, hm)) (omega (arith, hn)) cut.0, cut.1)

has_cut : {text before behind : List ℕ} (wanted : List ℕ) → IsFirstCut 44 text before behind
    → has_item wanted text ≡ (bytes_eq before wanted || has_item wanted behind)
has_cut wanted cut = ap (list_any (λ item. bytes_eq item wanted)) (items_cut cut)

or_false : (b : Bool) → (b || false) ≡ b
or_false true = refl
or_false false = refl

by_test : (r : Bool) (a b : List ℕ) → (r ≡ true) ↔ (a ≡ b) → r ≡ bytes_eq a b
by_test true a b h = sym (same_item a b (h.0 refl))
by_test false a b h = sym (other_item a b (λ e. cc (h.1 e)))

has_last : {text : List ℕ} (r : Bool) (wanted : List ℕ) → IsWithout 44 text
    → (r ≡ true) ↔ (text ≡ wanted) → r ≡ has_item wanted text
has_last {text} r wanted apart h =
    by_test r text wanted h ∙ sym (or_false (bytes_eq text wanted))
    ∙ sym (ap (list_any (λ item. bytes_eq item wanted)) (items_none text apart))

or_assoc : (a b c : Bool) → (a || (b || c)) ≡ ((a || b) || c)
or_assoc true b c = refl
or_assoc false b c = refl

-- an item that is there is found, and one that is not is looked for in the rest
pub found_more : (found r whole : Bool) (wanted : List ℕ) {text before behind : List ℕ}
    → IsFirstCut 44 text before behind → (r ≡ true) ↔ (before ≡ wanted)
    → whole ≡ (found || has_item wanted text)
    → whole ≡ ((found || r) || has_item wanted behind)
found_more found r whole wanted {text} {before} {behind} cut h e =
    e ∙ ap (λ x. found || x) (has_cut wanted cut
    ∙ ap (λ (b : Bool). b || has_item wanted behind) (sym (by_test r before wanted h)))
    ∙ or_assoc found r (has_item wanted behind)

pub found_last : (found r : Bool) (wanted : List ℕ) {text : List ℕ} → IsWithout 44 text
    → (r ≡ true) ↔ (text ≡ wanted) → (found || r) ≡ (found || has_item wanted text)
found_last found r wanted apart h = ap (λ x. found || x) (has_last r wanted apart h)

-- what was read of a header
abbrev pub IsRead : (header : List ℕ) → Timestamp → Type 0
IsRead header time = (time.digits.now ≡ decimal time.seconds) × (time.seconds < 2 ^ 64)
    × (header ≡ timestamp_then time.seconds time.items.now)

-- the time and the items are known from it, and the pieces that are signed join to the message
pub stripe_read : (header : List ℕ) (time : Timestamp) → IsRead header time → (n : ℕ)
    (items : List ℕ) → n < 2 ^ 64 → header ≡ timestamp_then n items
    → (time.seconds ≡ n) × (time.items.now ≡ items)
    × ((body : List ℕ) → time.digits.now ++ 46 ∷ (body ++ []) ≡ stripe_message n body)
stripe_read header time read n items small is =
    let e = sym read.2 ∙ is in
    let same = timestamp_same time.seconds n time.items.now items read.1 small e in (
      same.0,
      same.1,
      λ body.
          ap (λ b. time.digits.now ++ 46 ∷ b) (append-nil body)
          ∙ ap (λ d. d ++ 46 ∷ body) (read.0 ∙ ap decimal same.0),
    )
