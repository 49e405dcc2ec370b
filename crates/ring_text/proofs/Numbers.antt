-- SPDX-License-Identifier: ISC
-- Numbers in decimal: each is read in one way.
use Rattle.std.proofs.Common.{◌≡◌, ℕ, ◌<◌, ◌≤◌, List, [], ◌∷◌}
use Rattle.std.proofs.Common.{subst, arith}
use Rattle.std.specs.Prelude.{All, ◌^◌}
use Rattle.std.specs.Char.{digit_value}
use Rattle.std.specs.Fmt.{decimal}
use Rattle.std.specs.Str.Parse.{AllDigits}
use Rattle.std.specs.Int.NonZero.{non_zero_u32_get}
use Rattle.std.specs.declared.num.NonZeroU32.{NonZeroU32}
use Rattle.std.proofs.lemmas.Bool.{ne_eqb}
use Rattle.std.proofs.lemmas.Fmt.{decimal_is_IsNumeral, decimal_injective}
use Rattle.std.proofs.lemmas.List.Elements.{All-nil, All-cons, All-weaker}
use denote.Struct.Props.{props}
use mathlib.Core.HLevel.{Σ_prop_path}
use Rattle.ring_text.specs.Cut.{IsFirstCut, IsWithout}
use Rattle.ring_text.specs.Field.{IsCount, count_then, number_then}
use Rattle.ring_text.proofs.Cuts.{NotAt, first_cut, run_same}

abbrev pub IsDigit : ℕ → Type 0
IsDigit d = digit_value d < 10

All-digits : (ds : List ℕ) → AllDigits 10 ds → All IsDigit ds
All-digits [] h = All-nil IsDigit
All-digits (d ∷ ds) h = All-cons IsDigit d ds h.0 (All-digits ds h.1)

pub All-decimal : (n : ℕ) → n < 2 ^ 32 → All IsDigit (decimal n)
All-decimal n h = All-digits _ (decimal_is_IsNumeral n (omega arith)).0.1

-- a byte that is no digit is not in a count
pub IsWithout-decimal : (end : ℕ) → (IsDigit end → ⊥) → (c : NonZeroU32) → IsCount c
    → IsWithout end (decimal (non_zero_u32_get c))
IsWithout-decimal end none c h =
    All-weaker IsDigit (NotAt end)
    (λ d digit. ne_eqb d end (λ same. none (subst IsDigit same digit)))
    (decimal (non_zero_u32_get c)) (All-decimal (non_zero_u32_get c) h)

pos_prop : (n : ℕ) → IsProp (0 < n)
pos_prop n = hlevel props

-- iterations are known from their number
pub same_count : (c d : NonZeroU32) → non_zero_u32_get c ≡ non_zero_u32_get d → c ≡ d
same_count c d e =
    let pairs : ◌≡◌ {A = (n : ℕ) × (0 < n)} (c.value, c.ok) (d.value, d.ok) =
    Σ_prop_path pos_prop e in
    λ i. record { value = (pairs i).0; ok = (pairs i).1 }

-- a number, the byte that ends it and the rest are known from the whole
module _ {x y : ℕ} {s t : List ℕ} (nx : IsDigit x → ⊥) (ny : IsDigit y → ⊥) where
  pub number_same : (m n : ℕ) → m < 2 ^ 32 → n < 2 ^ 32
      → number_then m x s ≡ number_then n y t → (m ≡ n) × (x ≡ y) × (s ≡ t)
  number_same m n hm hn e =
      let run = run_same IsDigit nx ny (decimal m) (decimal n) (All-decimal m hm)
      (All-decimal n hn) e in
      (decimal_injective m n (omega arith) (omega arith) run.0, run.1, run.2)

  pub count_same : (c d : NonZeroU32) → IsCount c → IsCount d
      → count_then c x s ≡ count_then d y t → (c ≡ d) × (x ≡ y) × (s ≡ t)
  count_same c d hc hd e =
      let read = number_same (non_zero_u32_get c) (non_zero_u32_get d) hc hd e in
      (same_count c d read.0, read.1, read.2)

pub count_then-injective : (end : ℕ) → (IsDigit end → ⊥) → (c d : NonZeroU32) {s t : List ℕ}
    → IsCount c → IsCount d → count_then c end s ≡ count_then d end t → (c ≡ d) × (s ≡ t)
count_then-injective end none c d hc hd e =
    let read = count_same none none c d hc hd e in
    (read.0, read.2)

-- a count was written, and what followed
pub count_cut : {end : ℕ} {text before behind : List ℕ} → IsFirstCut end text before behind
    → 10 ≤ digit_value end → (c : NonZeroU32) (rest : List ℕ) → IsCount c
    → text ≡ count_then c end rest → (before ≡ decimal (non_zero_u32_get c)) × (behind ≡ rest)
count_cut {end} cut none c rest h e =
    first_cut cut (decimal (non_zero_u32_get c)) rest
    (IsWithout-decimal end (λ small. omega arith) c h) e
