-- SPDX-License-Identifier: ISC
-- A test of a password against what is kept.
use Rattle.std.proofs.Common.{◌≡◌, ◌≢◌, ◌+◌, ◌∙◌, ℕ, false, List, arith, length}
use Rattle.std.proofs.Common.{refl, subst, sym}
use Rattle.std.specs.Prelude.{Err, Ok, Some, nat_lt}
use Rattle.std.proofs.lemmas.Bool.{eq-eqb, false_from_ne_true}
use Rattle.std.proofs.lemmas.Slice.Eq.{bytes_eq-Decides}
use Rattle.std.specs.Int.NonZero.{non_zero_u32_get}
use Rattle.std.specs.Str.{bytes_eq}
use Rattle.ring_core.proofs.Costs.{raised-raised}
use Rattle.ring_core.specs.Cost.{Counts, compared_pairs, raised}
use Rattle.ring_password_hash.specs.Stored.{Derives, Parts, Tests, derived_of, kept_blocks}
use Rattle.ring_password_hash.specs.declared.error.HashError.TheVariants.{WrongPassword}

module _ (h : Parts) (p : List ℕ) (most : ℕ) {n : ℕ} {derived : List ℕ}
    {before mid after : Counts}
    (fits : nat_lt most (non_zero_u32_get h.iterations) ≡ false)
    (long : length derived ≡ length h.kept)
    (size : n ≡ length h.kept)
    (derives : Derives h.scheme p h.salt (non_zero_u32_get h.iterations) n derived before mid
    (Ok tt))
    (compared : after ≡ raised mid 0 (compared_pairs (length h.kept) (length derived))) where
  d : Derives h.scheme p h.salt (non_zero_u32_get h.iterations) (length h.kept) derived before mid
      (Ok tt)
  d =
      subst (λ (n : ℕ). Derives h.scheme p h.salt (non_zero_u32_get h.iterations) n derived before
      mid (Ok tt)) size derives

  cost : after ≡ raised before (kept_blocks h.scheme (length p) (length h.salt)
      (non_zero_u32_get h.iterations) (length h.kept)) (length h.kept)
  cost =
      let n = length h.kept in
      let count = non_zero_u32_get h.iterations in
      let blocks = kept_blocks h.scheme (length p) (length h.salt) count n in
      let same : blocks + 0 ≡ blocks = omega arith in
      let equal = eq-eqb n n refl in
      let pairs : compared_pairs n (length derived) ≡ n = rw (long, equal) refl in
      let none : 0 + n ≡ n = omega arith in
      let all = raised-raised before blocks 0 0 n in
      compared ∙ rw (pairs, d.cost) (rw (same, none) at all)

  pub tests_right : h.kept ≡ derived → Tests (Some h) p most before after (Ok tt)
  tests_right same = record {
    answer = rw (fits, d.can) (rw ((bytes_eq-Decides h.kept _).1 (same ∙ d.ok)) refl);
    cost = rw (fits, d.can) cost;
  }

  pub tests_wrong : h.kept ≢ derived → Tests (Some h) p most before after (Err WrongPassword)
  tests_wrong other =
      let differs = false_from_ne_true (bytes_eq h.kept _)
      (λ same. other ((bytes_eq-Decides h.kept (derived_of h.scheme p h.salt
      (non_zero_u32_get h.iterations) (length h.kept))).0 same ∙ sym d.ok)) in
      record { answer = rw (fits, d.can, differs) refl; cost = rw (fits, d.can) cost }
