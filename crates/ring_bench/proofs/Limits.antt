-- SPDX-License-Identifier: ISC
-- Lemmas on the tests of limits, each of which passes exactly where its limit holds, and on the
-- blocks that tell whether a verification was refused.
use Rattle.std.proofs.Common.{◌≡◌, ℕ, ◌+◌, ◌-◌, ◌^◌, ◌<◌, ◌≤◌, ◌∙◌, nat_le, Bool, true, false}
use Rattle.std.proofs.Common.{List, refl, sym, ap, arith, rules, true≢false}
use Rattle.std.proofs.lemmas.Bool.Decides.{nat_tests, same_from_decides}
use Rattle.std.specs.Str.{bytes_eq}
use Rattle.std.proofs.lemmas.Slice.Eq.{bytes_eq-Decides}
use Rattle.std.proofs.lemmas.Bool.{false_from_ne_true, true_from_ne_false}
use Rattle.ring.specs.Cost.{Counts, derive_blocks, padded_blocks, raised}
use Rattle.ring.specs.Algorithm.{block_len, max_input_len}
use Rattle.ring.specs.Limits.{CanDerive, CanVerify, IsInfoWithin, IsOutputWithin, IsTagWithin}
use Rattle.ring.specs.Limits.{can_derive, can_expand, can_verify, max_okm_len}
use Rattle.ring.specs.Okm.{CanFill}
use Rattle.ring.specs.declared.digest.algorithm.Algorithm.{Algorithm}
use Rattle.ring.proofs.Costs.{IsNew}

-- a test of a limit passes where the limit holds
pub passes : {n most : ℕ} → n ≤ most → nat_le n most ≡ true
passes below = search (rules, below)

-- and fails where it does not
pub fails : {n most : ℕ} → (n ≤ most → ⊥) → nat_le n most ≡ false
fails above = search (rules, above)

-- a call that was not refused is within its limit
pub not_refused : {n most : ℕ} → (most < n → false ≡ true) → nat_le n most ≡ true
not_refused {n} {most} refused =
    passes (omega (arith, λ (over : most < n). true≢false (sym (refused over))))

-- a verification is told by whether the lists are equal
pub same_verdict : {b : Bool} {t made : List ℕ} → (b ≡ true → t ≡ made) → (t ≡ made → b ≡ true)
    → b ≡ bytes_eq t made
same_verdict {b} {t} {made} to from =
    same_from_decides b (bytes_eq t made) (to, from) (bytes_eq-Decides t made)

-- the tests of lengths pass exactly where the limits hold
pub can_expand-true : {a : Algorithm} {i n : ℕ} → IsOutputWithin a n × IsInfoWithin a i n
    → can_expand a i n ≡ true
can_expand-true h =
    let few = h.0 in
    let first = h.1.first_round in
    let next = h.1.next_rounds in
    grind (arith, nat_tests)

can_expand-within : (a : Algorithm) (i n : ℕ) → can_expand a i n ≡ true → IsInfoWithin a i n
can_expand-within a i n e = record {
  first_round = grind (arith, nat_tests);
  next_rounds = λ more. grind (arith, nat_tests);
}

pub can_derive-true : {a : Algorithm} {p s n : ℕ} → CanDerive a p s n → can_derive a p s n ≡ true
can_derive-true h =
    let secret = h.secret in
    let salt = h.salt in
    let rounds = h.rounds in
    grind (arith, nat_tests)

pub can_verify-true : {a : Algorithm} {p s n : ℕ} → CanVerify a p s n → can_verify a p s n ≡ true
can_verify-true h =
    let some = h.nonempty in
    let rest = can_derive-true h.within in
    grind (arith, nat_tests)

can_verify-within : (a : Algorithm) (p s n : ℕ) → can_verify a p s n ≡ true → CanVerify a p s n
can_verify-within a p s n e = record {
  nonempty = grind (arith, nat_tests);
  within = record {
    secret = grind (arith, nat_tests);
    salt = λ some. grind (arith, nat_tests);
    rounds = grind (arith, nat_tests);
  };
}

-- blocks that a meter has room for show
rises : (before : Counts) {after : Counts} (blocks pairs : ℕ) → before.blocks < 2 ^ 128 - 1
    → 0 < blocks → after ≡ raised before blocks pairs → after.blocks ≡ before.blocks → ⊥
unfolding raised
rises before blocks pairs room some e same =
    let shown = sym (ap (λ (x : Counts). x.blocks) e) ∙ same in
    omega arith

-- a verification of a tag
module _ (a : Algorithm) (n : ℕ) (before : Counts) {after : Counts} where
  -- where it adds no block, it was refused
  pub tag-refused : (pairs : ℕ) → before.blocks < 2 ^ 128 - 1
      → (IsTagWithin a n → after ≡ raised before (padded_blocks a n + 1) pairs)
      → after.blocks ≡ before.blocks → nat_le (block_len a + n) (max_input_len a) ≡ false
  tag-refused pairs room cost same =
      fails (λ (fits : IsTagWithin a n).
      rises before (padded_blocks a n + 1) pairs room (omega arith) (cost fits) same)

  -- where it adds some, it was within the limit
  pub tag-within : (max_input_len a < block_len a + n → after ≡ before)
      → (after.blocks ≡ before.blocks → ⊥) → IsTagWithin a n
  tag-within unchanged some =
      let never = λ (over : max_input_len a < block_len a + n).
      some (ap (λ (x : Counts). x.blocks) (unchanged over)) in
      omega (arith, never)

-- a verification by PBKDF2 on a new meter
module _ {a : Algorithm} {p s n : ℕ} {before after : Counts} (new : IsNew before) where
  -- where it adds no block, it was refused
  pub derived-refused : (c pairs : ℕ)
      → (CanVerify a p s n → after ≡ raised before (derive_blocks a p s c n) pairs)
      → after.blocks ≡ 0 → can_verify a p s n ≡ false
  derived-refused c pairs cost same =
      let none = ap (λ (x : Counts). x.blocks) new in
      false_from_ne_true (can_verify a p s n) (λ e.
      let can = can_verify-within a p s n e in
      rises before (derive_blocks a p s c n) pairs (omega (arith, none)) (omega arith) (cost can)
      (omega (arith, none, same)))

  -- where it adds some, it was within the limits
  pub derived-within : ((CanVerify a p s n → ⊥) → after ≡ before) → (after.blocks ≡ 0 → ⊥)
      → CanVerify a p s n
  derived-within unchanged some =
      let none = λ (never : CanVerify a p s n → ⊥).
      ap (λ (x : Counts). x.blocks) (unchanged never ∙ new) in
      can_verify-within a p s n (true_from_ne_false (can_verify a p s n) (λ e.
      some (none (λ h. true≢false (sym (can_verify-true h) ∙ e)))))

-- an output that was asked for: its algorithm, the length of its info, and its number of bytes
module _ {a b : Algorithm} {i j n number : ℕ} (algorithm : b ≡ a) (info_len : j ≡ i)
    (asked : number ≡ n) where
  -- it can be filled where the test passes
  pub can_fill : {len : ℕ} → len ≡ n → can_expand a i n ≡ true → CanFill b j number len
  can_fill size e =
      rw (algorithm, info_len, asked, size)
      (record { same_len = refl; within = can_expand-within a i n e })

  -- where it was filled, it was within the limits
  pub filled : {len : ℕ} → (max_okm_len a < n → false ≡ true) → CanFill b j number len
      → IsOutputWithin a n × IsInfoWithin a i n
  filled refused can =
      let over = λ (h : max_okm_len a < n). true≢false (sym (refused h)) in
      (omega (arith, over), rw (algorithm, info_len, can.same_len, asked) at can.within)
