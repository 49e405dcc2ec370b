-- SPDX-License-Identifier: ISC
use Rattle.std.proofs.Common.{◌^◌, ◌<◌, ◌∙◌, sym, arith, rules}
use Rattle.std.proofs.lemmas.Bool.{ne_eqb}
use Rattle.std.proofs.lemmas.Bool.Decides.{nat_tests}
use Rattle.ring.proofs.Costs.{raised-raised}
use Rattle.ring.specs.Prelude.{Counts, raised}
use Rattle.std.proofs.Common.{◌≡◌, ◌*◌, ℕ, List, length, true, false}
use Rattle.ring_merkle.specs.Cost.{both_blocks, hashed_count, node_blocks, path_len}
use Rattle.ring_merkle.proofs.Rises.{raised-not}
use Rattle.ring_merkle.proofs.Walks.{leads-length}
use Rattle.ring_merkle.proofs.consistency.leads_to_both.Goals as goal

pub returns-then-path-path_len-clause-exact : goal.returns-then-path-path_len-clause-exact
returns-then-path-path_len-clause-exact c =
    let fits : c.args.start.last < 2 ^ 64 = search rules in (
      λ t. cc,
      λ h. absurd (c.if-path-path_len.true
          (leads-length c.requires fits (record { ends = h.whole })
          ∙ sym c.path_len.ensures.count)),
    )

pub returns-then-path-path_len-clause-cost : goal.returns-then-path-path_len-clause-cost
returns-then-path-path_len-clause-cost c =
    raised-not _ _ (ne_eqb _ _ (λ e. c.if-path-path_len.true (e ∙ sym c.path_len.ensures.count)))

-- both walks are due
both : (fn sn : ℕ) (path : List (List ℕ)) (m : Counts) {m1 m2 : Counts}
    → length path ≡ path_len fn sn
    → m1 ≡ raised m (node_blocks * hashed_count false fn sn path) 0
    → m2 ≡ raised m1 (node_blocks * hashed_count true fn sn path) 0
    → m2 ≡ raised m (both_blocks fn sn path) 0
both fn sn path m len e f = grind (arith, nat_tests, raised-raised)

pub returns-then-is_same-clause-cost : goal.returns-then-is_same-clause-cost
returns-then-is_same-clause-cost c =
    both c.args.start.node c.args.start.last c.args.path.now c.args.meter.now
    (c.if-path-path_len.false ∙ c.path_len.ensures.count) c.climb-front.ensures.cost
    c.climb-whole.ensures.cost

pub returns-else-is_same-clause-cost : goal.returns-else-is_same-clause-cost
returns-else-is_same-clause-cost c =
    both c.args.start.node c.args.start.last c.args.path.now c.args.meter.now
    (c.if-path-path_len.false ∙ c.path_len.ensures.count) c.climb-front.ensures.cost
    c.climb-whole.ensures.cost
