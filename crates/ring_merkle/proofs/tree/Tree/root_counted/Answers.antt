-- SPDX-License-Identifier: ISC
use Rattle.std.proofs.Common.{◌≡◌, ◌+◌, ◌-◌, ◌^◌, ◌<◌, [], ◌∙◌, suc, length, arith, ap}
use Rattle.std.proofs.Common.{refl, rules}
use Rattle.std.proofs.lemmas.List.{drop_all, drop_more}
use Rattle.ring.proofs.Costs.{raised-none, raised-raised}
use Rattle.ring_merkle.specs.Tree.{root_at}
use Rattle.ring_merkle.proofs.Joins.{joins-even, joins-odd}
use Rattle.ring_merkle.proofs.Powers.{ones-zero}
use Rattle.ring_merkle.proofs.Stacks.{reached-begin, reached-end, reached-join, reached-keep}
use Rattle.ring_merkle.proofs.Trees.{pow-sum}
use Rattle.ring_merkle.proofs.tree.Tree.root_counted.Goals.{else-count-eq1, then-count-eq1}
use Rattle.ring_merkle.proofs.tree.Tree.root_counted.Goals as goal

pub loop-root-init : goal.loop-root-init
loop-root-init c = record {
  reached = λ xs h.
      let places : length c.args.self.now.roots ≡ 64 = search rules in
      let few : c.args.self.now.size < 2 ^ 64 = search rules in
      rw (← h.size) (reached-begin (rw places (omega (arith, h.size))) h.roots);
  few = search rules;
  cost = refl;
}

pub loop-root-preserved : goal.loop-root-preserved
loop-root-preserved c =
    let roots = c.args.self.now.roots in
    let j = c.loop-root.root-index in
    let n = c.loop-root.count in
    let inv = c.loop-root.invariant in
    let places : length roots ≡ 64 = search rules in
    let p : 64 - j ≡ suc (64 - (j + 1)) = omega arith in
    let q = ap (λ k. 2 ^ k) p in
    let more = drop_more roots j [] (omega arith) in
    record {
      reached = λ xs h. let r = rw more at inv.reached xs h in elim c.if-count-eq1.branch [
        | then-count-eq1 w ↦ rw (w.last-is, w.node_over.ensures.hash)
            (reached-join w.if-count-eq1.true r)
        | else-count-eq1 w ↦ rw w.last-is
            (reached-keep (omega (arith, w.if-count-eq1.false)) r)
      ];
      few = omega (arith, q, pow-sum (64 - (j + 1)), inv.few);
      cost = elim c.if-count-eq1.branch [
        | then-count-eq1 w ↦ inv.cost ∙ rw (
          joins-odd c.loop-root.last w.node_over.result n w.if-count-eq1.true,
          w.last-is,
          w.meter-is,
          w.node_over.ensures.cost,
          raised-raised,
        )
        | else-count-eq1 w ↦ inv.cost ∙ rw (
          joins-even c.loop-root.last n (omega (arith, w.if-count-eq1.false)),
          w.last-is,
          w.meter-is,
        )
      ];
    }

pub returns-in-None-clause-root : goal.returns-in-None-clause-root
unfolding root_at
returns-in-None-clause-root c xs h =
    let roots = c.args.self.now.roots in
    let places : length roots ≡ 64 = search rules in
    let all = drop_all c.loop-root.root-index roots (rw places c.loop-root-test.false) in
    c.empty_root_counted.ensures.hash
    ∙ reached-end (rw (all, c.in-None.is) at c.loop-root.invariant.reached xs h)

pub returns-in-Some-clause-root : goal.returns-in-Some-clause-root
unfolding root_at
returns-in-Some-clause-root c xs h =
    let roots = c.args.self.now.roots in
    let places : length roots ≡ 64 = search rules in
    let all = drop_all c.loop-root.root-index roots (rw places c.loop-root-test.false) in
    reached-end (rw (all, c.in-Some.is) at c.loop-root.invariant.reached xs h)

pub returns-in-None-clause-cost : goal.returns-in-None-clause-cost
returns-in-None-clause-cost c =
    let j = c.loop-root.root-index in
    let places : length c.args.self.now.roots ≡ 64 = search rules in
    let top : 64 - j ≡ 0 = omega (arith, c.loop-root-test.false) in
    let none : c.loop-root.count ≡ 0 =
    omega (arith, ap (λ k. 2 ^ k) top, c.loop-root.invariant.few) in
    rw (c.loop-root.invariant.cost, c.in-None.is, none) c.empty_root_counted.ensures.cost

pub returns-in-Some-clause-cost : goal.returns-in-Some-clause-cost
returns-in-Some-clause-cost c =
    let j = c.loop-root.root-index in
    let places : length c.args.self.now.roots ≡ 64 = search rules in
    let top : 64 - j ≡ 0 = omega (arith, c.loop-root-test.false) in
    let none : c.loop-root.count ≡ 0 =
    omega (arith, ap (λ k. 2 ^ k) top, c.loop-root.invariant.few) in
    rw (c.loop-root.invariant.cost, c.in-Some.is, none, ones-zero) (raised-none c.loop-root.meter)
