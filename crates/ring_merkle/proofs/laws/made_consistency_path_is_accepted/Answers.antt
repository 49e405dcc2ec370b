-- SPDX-License-Identifier: ISC
use Rattle.std.proofs.Common.{◌≡◌, arith, length, length-take, refl, take}
use Rattle.ring_merkle.proofs.Made.{front, rises}
use Rattle.ring_merkle.proofs.laws.made_consistency_path_is_accepted.Goals as goal

pub returns-clause-cost : goal.returns-clause-cost
returns-clause-cost c =
    let made = c.in_ok-len.ensures.plain in
    let m = c.args.first_size in
    let xs = c.args.leaves.now in
    let within = made.refused.0 refl in
    let size : length (take m xs) ≡ m = omega (arith, length-take m xs, within.1) in
    rises _ _ _ (rises _ _ _ (rises _ _ _ (rw made.len at c.in_ok-len.ensures.cost)
    (rw size at c.tree_root_counted-first.ensures.cost)) c.tree_root_counted-second.ensures.cost)
    (rw (c.tree_root_counted-first.ensures.root, front _ made.len made.ok)
    at c.verify_consistency_counted.ensures.cost)
