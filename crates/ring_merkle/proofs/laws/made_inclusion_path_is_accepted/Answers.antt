-- SPDX-License-Identifier: ISC
use Rattle.ring_merkle.proofs.Made.{front, rises}
use Rattle.ring_merkle.proofs.laws.made_inclusion_path_is_accepted.Goals as goal

pub returns-clause-cost : goal.returns-clause-cost
returns-clause-cost c =
    let made = c.in_ok-len.ensures.plain in
    rises _ _ _ (rises _ _ _ (rw made.len at c.in_ok-len.ensures.cost)
    c.tree_root_counted-root.ensures.cost)
    (rw (front _ made.len made.ok) at c.verify_inclusion_counted.ensures.cost)
