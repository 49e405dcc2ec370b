-- SPDX-License-Identifier: ISC
-- The blocks that are left where nodes are joined, by the bits of a size.
use Rattle.std.proofs.lemmas.Bool.Decides.{nat_tests}
use Rattle.std.proofs.lemmas.Nat.{ones_le_self, zero_from_ones}
use Rattle.std.proofs.Common.{◌≡◌, ◌+◌, ◌-◌, ◌*◌, ◌/◌, ◌%◌, ◌≤◌, ℕ, zero, suc}
use Rattle.std.proofs.Common.{List, length, ap, arith, ⊎_elim, Option, None, Some}
use Rattle.std.specs.Prelude.{count_ones}
use Rattle.ring_merkle.specs.Cost.{node_blocks, push_blocks, root_blocks}
use Rattle.ring_merkle.specs.Cost.{tree_blocks}
use Rattle.ring_merkle.specs.Stack.{last_of}
use Rattle.ring_merkle.proofs.Powers.{ones-even, ones-odd}
use Rattle.ring_merkle.proofs.Sides.{parity}
use lib.Count.{ones_step}

ones-next-odd : (n : ℕ) → n % 2 ≡ 1 → count_ones (n + 1) ≡ count_ones (n / 2 + 1)
ones-next-odd n e =
    let half : (n + 1) / 2 ≡ n / 2 + 1 = omega arith in
    omega (arith, ones_step (n + 1), ap count_ones half)

ones-next-even : (n : ℕ) → n % 2 ≡ 0 → count_ones (n + 1) ≡ 1 + count_ones n
ones-next-even n e =
    let half : (n + 1) / 2 ≡ n / 2 = omega arith in
    omega (arith, ones_step (n + 1), ones_step n, ap count_ones half)

ones-next : (d n : ℕ) → n ≤ d → count_ones (n + 1) ≤ 1 + count_ones n
ones-next zero n le =
    let none : n ≡ 0 = omega arith in omega (arith, ones-next-even n (omega arith))
ones-next (suc d) n le =
    ⊎_elim
    (λ even. omega (arith, ones-next-even n even))
    (λ odd. omega (arith, ones-next-odd n odd, ones-odd n odd, ones-next d (n / 2) (omega arith)))
    (parity n)

-- a leaf more joins nodes from a level with so many nodes on
pub push-odd : (n : ℕ) → n % 2 ≡ 1 → push_blocks n ≡ node_blocks + push_blocks (n / 2)
push-odd n odd =
    omega (arith, ones-odd n odd, ones-next-odd n odd, ones-next (n / 2) (n / 2) (omega arith))

pub push-even : (n : ℕ) → n % 2 ≡ 0 → push_blocks n ≡ 0
push-even n even = omega (arith, ones-next-even n even)

-- the blocks from a level with so many complete subtrees on, where this is joined so far
abbrev pub joins : Option (List ℕ) → ℕ → ℕ
joins None n = root_blocks n
joins (Some x) n = node_blocks * count_ones n

pub joins-even : (e : Option (List ℕ)) (n : ℕ) → n % 2 ≡ 0 → joins e n ≡ joins e (n / 2)
joins-even None n even = let o = ones-even n even in grind (arith, nat_tests)
joins-even (Some x) n even = omega (arith, ones-even n even)

pub joins-odd : (e : Option (List ℕ)) (x : List ℕ) (n : ℕ) → n % 2 ≡ 1
    → joins e n ≡ node_blocks * length (last_of e) + joins (Some x) (n / 2)
joins-odd None x n odd = let o = ones-odd n odd in grind (arith, nat_tests)
joins-odd (Some y) x n odd = omega (arith, ones-odd n odd)

-- n leaves are pushed, and one more; and then they are joined
pub leaves-more : (n : ℕ) → node_blocks * (n - count_ones n) + push_blocks n
    ≡ node_blocks * (n + 1 - count_ones (n + 1))
leaves-more n = omega (arith, ones_le_self n, ones_le_self (n + 1), ones-next n n (omega arith))

pub leaves-root : (n : ℕ) → node_blocks * (n - count_ones n) + root_blocks n ≡ tree_blocks n
leaves-root n =
    let few = ones_le_self n in
    let some = zero_from_ones n in
    grind (arith, nat_tests)
