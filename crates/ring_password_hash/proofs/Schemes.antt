-- SPDX-License-Identifier: ISC
-- All schemes in turn, and their names.
use Rattle.std.proofs.Common.{◌≡◌, ◌<◌, ◌+◌, ◌∷◌, ◌∙◌, ℕ, Bool, true, List, [], ap, arith, inl, inr}
use Rattle.std.proofs.Common.{refl, slice_index_or, subst, sym}
use Rattle.std.specs.Prelude.{if◌then◌else◌}
use Rattle.std.proofs.lemmas.Bool.{cases_lt}
use Rattle.std.specs.Str.{bytes_eq}
use Rattle.base64.proofs.Tables.{all_below_at}
use Rattle.base64.specs.Tables.{all_below}
use Rattle.ring_password_hash.specs.Scheme.{Row, name_of, row_of}
use Rattle.ring_password_hash.specs.declared.scheme.Scheme.{Scheme}
use Rattle.ring_password_hash.specs.declared.scheme.Scheme.TheVariants as scheme
use Rattle.ring_password_hash.specs.declared.scheme.TheConstants.{SCHEMES}

abbrev pub scheme_at : ℕ → Scheme
scheme_at i = slice_index_or SCHEMES i scheme.DjangoSha256

-- what holds at each place holds of each scheme
pub at_each : (P : Scheme → Type 0) → ((i : ℕ) → i < 12 → P (scheme_at i)) → (k : Scheme) → P k
at_each P all scheme.DjangoSha256 = all 0 (omega arith)
at_each P all scheme.DjangoSha1 = all 1 (omega arith)
at_each P all scheme.WerkzeugSha256 = all 2 (omega arith)
at_each P all scheme.WerkzeugSha512 = all 3 (omega arith)
at_each P all scheme.PhcSha256 = all 4 (omega arith)
at_each P all scheme.PhcSha512 = all 5 (omega arith)
at_each P all scheme.Mosquitto = all 6 (omega arith)
at_each P all scheme.PasslibSha1 = all 7 (omega arith)
at_each P all scheme.PasslibSha256 = all 8 (omega arith)
at_each P all scheme.PasslibSha512 = all 9 (omega arith)
at_each P all scheme.Postgresql = all 10 (omega arith)
at_each P all scheme.WerkzeugSha1 = all 11 (omega arith)

-- so does a test of each row
pub each_row : (test : Row → Bool) → all_below (λ i. test (row_of (scheme_at i))) 12 ≡ true
    → (k : Scheme) → test (row_of k) ≡ true
each_row test all =
    at_each (λ k. test (row_of k) ≡ true)
    (λ i below. all_below_at (λ j. test (row_of (scheme_at j))) 12 i all below)

-- one place more
pub at_next : (P : Scheme → Type 0) (i : ℕ) → ((j : ℕ) → j < i → P (scheme_at j))
    → P (scheme_at i) → (j : ℕ) → j < i + 1 → P (scheme_at j)
at_next P i before here j below =
    elim (cases_lt j i) [
      | inl less ↦ before j less
      | inr more ↦ (let same : i ≡ j = omega (arith, more, below) in
          subst (λ (m : ℕ). P (scheme_at m)) same here)
    ]

-- the scheme of a name that one has
scheme_named : List Scheme → List ℕ → Scheme
scheme_named [] name = scheme.DjangoSha256
scheme_named (k ∷ ks) name =
    if bytes_eq (name_of k) name then k else scheme_named ks name

named_own : (k : Scheme) → scheme_named SCHEMES (name_of k) ≡ k
unfolding scheme_named
named_own scheme.DjangoSha256 = refl
named_own scheme.DjangoSha1 = refl
named_own scheme.WerkzeugSha256 = refl
named_own scheme.WerkzeugSha512 = refl
named_own scheme.PhcSha256 = refl
named_own scheme.PhcSha512 = refl
named_own scheme.Mosquitto = refl
named_own scheme.PasslibSha1 = refl
named_own scheme.PasslibSha256 = refl
named_own scheme.PasslibSha512 = refl
named_own scheme.Postgresql = refl
named_own scheme.WerkzeugSha1 = refl

pub name_of-injective : (k l : Scheme) → name_of k ≡ name_of l → k ≡ l
name_of-injective k l e = sym (named_own k) ∙ ap (scheme_named SCHEMES) e ∙ named_own l
