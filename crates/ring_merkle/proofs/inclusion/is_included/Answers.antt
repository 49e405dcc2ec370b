-- SPDX-License-Identifier: ISC
use Rattle.std.proofs.Common.{◌^◌, ◌<◌, ◌∙◌, sym, arith, rules}
use Rattle.std.proofs.lemmas.Bool.{and_left, and_right, le-ltb, ne_eqb}
use Rattle.ring_merkle.proofs.Rises.{raised-not}
use Rattle.ring_merkle.proofs.Walks.{leads-length}
use Rattle.ring_merkle.proofs.inclusion.is_included.Goals as goal

pub returns-then-index-tree-clause-cost : goal.returns-then-index-tree-clause-cost
returns-then-index-tree-clause-cost c =
    raised-not _ _ (and_left _ _ (le-ltb c.args.index c.args.tree.size
    (omega (arith, c.if-index-tree.true))))

pub returns-then-path-path_len-clause-exact : goal.returns-then-path-path_len-clause-exact
returns-then-path-path_len-clause-exact c =
    let fits : c.args.tree.size < 2 ^ 64 = search rules in (
      λ t. cc,
      λ h. absurd (c.if-path-path_len.true
          (leads-length (omega (arith, c.if-index-tree.false)) (omega (arith, fits))
          (record { ends = h.leads }) ∙ sym c.path_len.ensures.count)),
    )

pub returns-then-path-path_len-clause-cost : goal.returns-then-path-path_len-clause-cost
returns-then-path-path_len-clause-cost c =
    raised-not _ _ (and_right _ _
    (ne_eqb _ _ (λ e. c.if-path-path_len.true (e ∙ sym c.path_len.ensures.count))))
