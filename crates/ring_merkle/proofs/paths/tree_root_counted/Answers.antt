-- SPDX-License-Identifier: ISC
use Rattle.std.proofs.Common.{◌≡◌, [], ◌∙◌, length}
use Rattle.std.proofs.Common.{take, ap, arith, length-take}
use Rattle.std.proofs.lemmas.List.{take_all, take_more}
use Rattle.ring.proofs.Costs.{raised-none, raised-raised}
use Rattle.ring.specs.Prelude.{raised}
use Rattle.ring_merkle.specs.Stack.{leaf_count}
use Rattle.ring_merkle.specs.Tree.{root_of}
use Rattle.ring_merkle.proofs.Joins.{leaves-more, leaves-root}
use Rattle.ring_merkle.proofs.paths.tree_root_counted.Goals as goal

pub loop-leaf-init : goal.loop-leaf-init
loop-leaf-init c = record {
  held = c.new-tree.ensures;
  cost = raised-none _ ∙ ap (λ k. raised c.args.meter.now k 0) (omega arith);
}

pub push_counted-requires : goal.push_counted-requires
push_counted-requires c =
    let held = c.loop-leaf.invariant.held in
    omega (
      arith,
      held.size,
      length-take c.loop-leaf.leaf-index c.args.leaves.now,
      c.loop-leaf-test.true,
    )

pub loop-leaf-preserved : goal.loop-leaf-preserved
loop-leaf-preserved c =
    let xs = c.args.leaves.now in
    let i = c.loop-leaf.leaf-index in
    let inv = c.loop-leaf.invariant in
    let count : leaf_count c.loop-leaf.tree ≡ i =
    omega (arith, inv.held.size, length-take i xs, c.loop-leaf-test.true) in
    record {
      held = rw (take_more xs i [] c.loop-leaf-test.true)
          (c.push_counted.ensures.holds (take i xs) inv.held);
      cost = rw (c.push_counted.ensures.cost, count, inv.cost, raised-raised, leaves-more i);
    }

pub returns-clause-root : goal.returns-clause-root
returns-clause-root c =
    c.root_counted.ensures.root (take c.loop-leaf.leaf-index c.args.leaves.now)
    c.loop-leaf.invariant.held
    ∙ ap root_of (take_all c.loop-leaf.leaf-index c.args.leaves.now c.loop-leaf-test.false)

pub returns-clause-cost : goal.returns-clause-cost
returns-clause-cost c =
    let xs = c.args.leaves.now in
    let i = c.loop-leaf.leaf-index in
    let inv = c.loop-leaf.invariant in
    let all : i ≡ length xs =
    omega (arith, c.loop-leaf-test.false, c.loop-leaf.auto.leaf-index-end) in
    let count : leaf_count c.loop-leaf.tree ≡ i =
    omega (arith, inv.held.size, length-take i xs, all) in
    rw (c.root_counted.ensures.cost, count, inv.cost, raised-raised, leaves-root i, all)
