-- SPDX-License-Identifier: ISC
-- How rises of a meter add up.
use Rattle.std.proofs.Common.{◌≡◌, ◌≢◌, ℕ, ◌+◌, ◌-◌, ◌^◌, ◌<◌, ◌==◌, false, refl, ap, arith, rules}
use Rattle.std.proofs.Common.{min}
use Rattle.ring_core.specs.Prelude.{Counts, compared_pairs, raised, raised_count}

raised_count-none : (n : ℕ) → n ≡ raised_count n 0
raised_count-none n = omega arith

raised_count-more : (n a b : ℕ) → raised_count (raised_count n a) b ≡ raised_count n (a + b)
raised_count-more n a b = omega arith

-- a rise by nothing
pub raised-none : (c : Counts) → c ≡ raised c 0 0
unfolding raised
raised-none c = λ i. record {
  blocks = raised_count-none c.blocks i;
  byte_pairs = raised_count-none c.byte_pairs i;
}

-- one rise after another
pub raised-raised : (c : Counts) (a p b q : ℕ)
    → raised (raised c a p) b q ≡ raised c (a + b) (p + q)
unfolding raised
raised-raised c a p b q = λ i. record {
  blocks = raised_count-more c.blocks a b i;
  byte_pairs = raised_count-more c.byte_pairs p q i;
}

-- a meter that was raised by so many blocks shows as many more, where it has room for them
pub counted : (m0 m1 : Counts) (blocks pairs : ℕ) → m1 ≡ raised m0 blocks pairs
    → m0.blocks + blocks < 2 ^ 128
    → m1.blocks ≡ m0.blocks + blocks
unfolding raised
counted m0 m1 blocks pairs e fits = let same = ap (λ (c : Counts). c.blocks) e in omega arith

-- what a new meter shows
abbrev pub IsNew : Counts → Type 0
IsNew c = c ≡ record { blocks = 0; byte_pairs = 0 }

-- the blocks that a new meter was raised by
pub counted_new : (m0 m1 : Counts) (blocks pairs : ℕ) → IsNew m0 → m1 ≡ raised m0 blocks pairs
    → blocks < 2 ^ 128
    → m1.blocks ≡ blocks
counted_new m0 m1 blocks pairs none e fits =
    let first = ap (λ (c : Counts). c.blocks) none in
    let last = counted m0 m1 blocks pairs e (omega arith) in
    omega arith

-- a comparison of lists of two lengths reads none
pub compared_pairs-none : (m n : ℕ) → m ≢ n → compared_pairs m n ≡ 0
compared_pairs-none m n differ = let e : (m == n) ≡ false = search (rules, differ) in rw e refl

pub ruleset rises = (raised-none, raised-raised, compared_pairs-none)

-- of a count that a meter can show, the rise is the sum cut off at 2 ^ 128 - 1
pub raised_count-cut_off : (count n : ℕ) → count < 2 ^ 128
    → raised_count count n ≡ min (count + n) (2 ^ 128 - 1)
raised_count-cut_off count n fits = omega arith
