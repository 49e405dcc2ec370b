-- SPDX-License-Identifier: ISC
-- Which scheme a text is of: its first bytes tell.
use Rattle.std.proofs.Common.{◌≡◌, ◌<◌, ◌==◌, ◌∷◌, ◌++◌, ◌∙◌, ℕ, Bool, true, false, List, [], ap}
use Rattle.std.proofs.Common.{arith, drop, length, refl, sym, true≢false}
use Rattle.std.specs.Prelude.{All, nat_lt}
use Rattle.std.proofs.lemmas.Bool.Decides.{nat_tests}
use Rattle.std.proofs.lemmas.Fmt.{decimal_is_IsNumeral}
use Rattle.std.proofs.lemmas.List.Elements.{All-head}
use Rattle.std.specs.Char.{digit_value}
use Rattle.std.specs.Fmt.{decimal}
use Rattle.std.specs.Int.NonZero.{non_zero_u32_get}
use Rattle.std.specs.declared.num.NonZeroU32.{NonZeroU32}
use Rattle.ring_text.proofs.Cuts.{first_of_list}
use Rattle.ring_text.proofs.Numbers.{All-decimal, IsDigit}
use Rattle.ring_password_hash.specs.Stored.{IsTextOf, Parts, parts_text}
use Rattle.ring_password_hash.specs.Text.{IsCount, IsLen, head_then, parameters_then}
use Rattle.ring_password_hash.specs.declared.scheme.Scheme.{Scheme}
use Rattle.ring_password_hash.specs.declared.scheme.Scheme.TheVariants as scheme
use Rattle.ring_password_hash.specs.declared.text.Parameters.{Parameters}
use Rattle.ring_password_hash.specs.declared.text.Parameters.TheVariants.{Count, CountThenLen}
use Rattle.ring_password_hash.specs.declared.text.Parameters.TheVariants.{LenThenCount}

-- the byte at a place, or 0 behind the end
abbrev byte_at : ℕ → List ℕ → ℕ
byte_at i text = first_of_list 0 (drop i text)

abbrev is_digit : ℕ → Bool
is_digit byte = nat_lt (digit_value byte) 10

abbrev pick : Bool → Scheme → Scheme → Scheme
pick true a b = a
pick false a b = b

-- a text behind `$pbkdf2-sha`: passlib's has a digit where a PHC string names a parameter
abbrev behind_dollar : List ℕ → Scheme
behind_dollar text =
    pick (byte_at 11 text == 50)
    (pick (is_digit (byte_at 15 text)) scheme.PasslibSha256 scheme.PhcSha256)
    (pick (is_digit (byte_at 15 text)) scheme.PasslibSha512 scheme.PhcSha512)

-- the scheme of a text that has one
abbrev scheme_from : List ℕ → Scheme
scheme_from text =
    pick (byte_at 0 text == 36)
    (pick (byte_at 1 text == 55) scheme.Mosquitto
    (pick (byte_at 7 text == 36) scheme.PasslibSha1 (behind_dollar text)))
    (pick (byte_at 0 text == 83) scheme.Postgresql
    (pick (byte_at 6 text == 95)
    (pick (byte_at 10 text == 50) scheme.DjangoSha256 scheme.DjangoSha1)
    (pick (byte_at 10 text == 50) scheme.WerkzeugSha256
    (pick (byte_at 10 text == 53) scheme.WerkzeugSha512 scheme.WerkzeugSha1))))

-- a number begins with a digit
first_digit : (ds t : List ℕ) → 0 < length ds → All IsDigit ds
    → is_digit (first_of_list 0 (ds ++ t)) ≡ true
first_digit [] t some digits = let none : 0 < 0 = some in absurd (omega (arith, none))
first_digit (d ∷ ds) t some digits =
    let digit : digit_value d < 10 = All-head IsDigit d ds digits in grind (arith, nat_tests, digit)

count_digit : (c : NonZeroU32) (t : List ℕ) → IsCount c
    → is_digit (first_of_list 0 (decimal (non_zero_u32_get c) ++ t)) ≡ true
count_digit c t small =
    let n = non_zero_u32_get c in
    first_digit (decimal n) t (decimal_is_IsNumeral n (omega arith)).0.0 (All-decimal n small)

-- the first bytes of a scheme's text tell the scheme
scheme_from-head : (k : Scheme) (p : Parameters) (c : NonZeroU32) (n : ℕ) (t : List ℕ) → IsCount c
    → IsLen k p n → scheme_from (head_then k p c n t) ≡ k
unfolding parameters_then
scheme_from-head scheme.DjangoSha256 p c n t hc h = refl
scheme_from-head scheme.DjangoSha1 p c n t hc h = refl
scheme_from-head scheme.WerkzeugSha256 p c n t hc h = refl
scheme_from-head scheme.WerkzeugSha512 p c n t hc h = refl
scheme_from-head scheme.WerkzeugSha1 p c n t hc h = refl
scheme_from-head scheme.PhcSha256 Count c n t hc h = refl
scheme_from-head scheme.PhcSha256 CountThenLen c n t hc h = refl
scheme_from-head scheme.PhcSha256 LenThenCount c n t hc h = refl
scheme_from-head scheme.PhcSha512 Count c n t hc h = refl
scheme_from-head scheme.PhcSha512 CountThenLen c n t hc h = refl
scheme_from-head scheme.PhcSha512 LenThenCount c n t hc h = refl
scheme_from-head scheme.Mosquitto p c n t hc h = refl
scheme_from-head scheme.PasslibSha1 p c n t hc h = refl
scheme_from-head scheme.Postgresql p c n t hc h = refl
scheme_from-head scheme.PasslibSha256 Count c n t hc h =
    ap (λ (b : Bool). pick b scheme.PasslibSha256 scheme.PhcSha256) (count_digit c (36 ∷ t) hc)
scheme_from-head scheme.PasslibSha256 CountThenLen c n t hc h = absurd (true≢false (sym h.named))
scheme_from-head scheme.PasslibSha256 LenThenCount c n t hc h = absurd (true≢false (sym h.named))
scheme_from-head scheme.PasslibSha512 Count c n t hc h =
    ap (λ (b : Bool). pick b scheme.PasslibSha512 scheme.PhcSha512) (count_digit c (36 ∷ t) hc)
scheme_from-head scheme.PasslibSha512 CountThenLen c n t hc h = absurd (true≢false (sym h.named))
scheme_from-head scheme.PasslibSha512 LenThenCount c n t hc h = absurd (true≢false (sym h.named))

-- one text is of one scheme
pub same_scheme : (g h : Parts) {text : List ℕ} → IsTextOf g text → IsTextOf h text
    → g.scheme ≡ h.scheme
unfolding parts_text
same_scheme g h one two =
    sym (scheme_from-head g.scheme g.parameters g.iterations (length g.kept) _ one.is.iterations
    one.is.kept)
    ∙ ap scheme_from (one.has ∙ sym two.has)
    ∙ scheme_from-head h.scheme h.parameters h.iterations (length h.kept) _ two.is.iterations
    two.is.kept
