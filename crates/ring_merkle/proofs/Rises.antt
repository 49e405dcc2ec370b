-- SPDX-License-Identifier: ISC
-- Rises of a meter.
use Rattle.std.proofs.lemmas.Bool.{cond-false}
use Rattle.std.proofs.lemmas.Bool.Decides.{nat_tests}
use Rattle.std.proofs.Common.{◌≡◌, ◌+◌, ◌-◌, ◌*◌, ◌<◌, ◌∙◌, ℕ, Bool, false, cond, ap, sym, arith}
use Rattle.ring.specs.Prelude.{Counts, raised}
use Rattle.ring.proofs.Costs.{raised-none, raised-raised}
use Rattle.ring_merkle.specs.Cost.{node_blocks, tree_blocks}

-- a cost that is none, and one that is not due
pub raised-zero : (m : Counts) {n : ℕ} → n ≡ 0 → m ≡ raised m n 0
raised-zero m e = raised-none m ∙ ap (λ k. raised m k 0) (sym e)

pub raised-not : (m : Counts) {b : Bool} (n : ℕ) → b ≡ false → m ≡ raised m (cond b n 0) 0
raised-not m {b} n e = raised-zero m (cond-false b n 0 e)

-- a tree of some leaves
pub some-blocks : (k : ℕ) → 0 < k → tree_blocks k ≡ node_blocks * (k - 1)
some-blocks k some = grind (arith, nat_tests)

-- the root over k leaves, and then more nodes
pub raised-more : (m0 : Counts) {m1 m2 : Counts} (k n all : ℕ) → 0 < k
    → m1 ≡ raised m0 (tree_blocks k) 0
    → m2 ≡ raised m1 (node_blocks * n) 0 → all ≡ n + (k - 1)
    → m2 ≡ raised m0 (node_blocks * all) 0
raised-more m0 k n all some e f sum =
    let more : tree_blocks k + node_blocks * n ≡ node_blocks * all =
    omega (arith, some-blocks k some, sum) in
    rw (f, e, raised-raised, more)
