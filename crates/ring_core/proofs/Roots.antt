-- SPDX-License-Identifier: ISC
-- A table of roots, tested by computing.
use Rattle.std.proofs.Common.{◌≡◌, ℕ, zero, suc, ◌+◌, ◌*◌, ◌^◌, ◌<◌, ◌&&◌, nat_le, nat_lt, Bool}
use Rattle.std.proofs.Common.{true, false, if◌then◌else◌, List, [], ◌∷◌, length, slice_index, refl}
use Rattle.std.proofs.Common.{arith, rules}
use Rattle.std.proofs.lemmas.Bool.{and_parts}
use Rattle.std.proofs.lemmas.Bool.Decides.{nat_tests}
use Rattle.ring_core.specs.Prelude.{IsRootFraction, first_primes}

-- the whole part of the root of order e of p, where it is at most n
abbrev whole_root : ℕ → ℕ → ℕ → ℕ
whole_root e p zero = zero
whole_root e p (suc n) = if nat_le (suc n ^ e) p then suc n else whole_root e p n

-- whether k is the first w bits of the fractional part of the root of order e of p, of which r
-- is the whole part
abbrev fraction_test : (e w p r k : ℕ) → Bool
fraction_test e w p r k =
    nat_lt k (2 ^ w)
    && (nat_le ((r * 2 ^ w + k) ^ e) (p * 2 ^ (e * w))
    && nat_lt (p * 2 ^ (e * w)) ((r * 2 ^ w + k + 1) ^ e))

-- whether each of ks is that of its place in ps
abbrev pub table_test : (e w : ℕ) → (ps ks : List ℕ) → Bool
table_test e w ps [] = true
table_test e w [] (k ∷ ks) = false
table_test e w (p ∷ ps) (k ∷ ks) = fraction_test e w p (whole_root e p p) k && table_test e w ps ks

tested : (e w p r k : ℕ) → fraction_test e w p r k ≡ true → IsRootFraction e w p k
tested e w p r k passes = record {
  whole = r;
  fraction = grind (arith, nat_tests, passes);
  at_most = grind (arith, nat_tests, passes);
  above = grind (arith, nat_tests, passes);
}

pub fraction_at : (e w : ℕ) (ps ks : List ℕ) (t : ℕ) → table_test e w ps ks ≡ true → t < length ks
    → IsRootFraction e w (slice_index ps t) (slice_index ks t)
fraction_at e w ps [] t passes in_table = absurd (omega arith)
fraction_at e w [] (k ∷ ks) t passes in_table = absurd (search rules)
fraction_at e w (p ∷ ps) (k ∷ ks) zero passes in_table =
    tested e w p (whole_root e p p) k (and_parts _ _ passes).0
fraction_at e w (p ∷ ps) (k ∷ ks) (suc t) passes in_table =
    fraction_at e w ps ks t (and_parts _ _ passes).1 (omega arith)

-- as many primes as SHA-512 has rounds
length-first_primes : length first_primes ≡ 80
unfolding first_primes
length-first_primes = refl
