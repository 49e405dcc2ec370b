-- SPDX-License-Identifier: ISC
use Rattle.std.proofs.Common.{◌≡◌, ◌+◌, ◌-◌, ◌^◌, [], ◌∷◌, ◌∙◌, suc, refl, arith, ap}
use Rattle.std.proofs.Common.{length-append, rules}
use Rattle.ring.proofs.Costs.{raised-none, raised-raised}
use Rattle.ring_merkle.proofs.Joins.{push-even, push-odd}
use Rattle.ring_merkle.proofs.Stacks.{carried-kept, carried-on}
use Rattle.ring_merkle.proofs.Trees.{pow-sum}
use Rattle.ring_merkle.proofs.tree.Tree.push_counted.Goals as goal

pub loop-level-init : goal.loop-level-init
loop-level-init c = record {
  places = search rules;
  room = omega (arith, c.requires);
  size = refl;
  carried = λ xs h. record {
    nodes = xs;
    number = h.size;
    stack = h.roots;
    gives = λ after s. s;
  };
  cost = refl;
}

pub returns-then-count-eq0-clause-holds : goal.returns-then-count-eq0-clause-holds
returns-then-count-eq0-clause-holds c xs h =
    let i = c.loop-level.invariant in
    record {
      size = omega (arith, length-append xs (c.args.leaf.now ∷ []), h.size, i.size);
      roots = carried-kept (omega (arith, i.places)) c.if-count-eq0.true (i.carried xs h);
    }

pub returns-then-count-eq0-clause-cost : goal.returns-then-count-eq0-clause-cost
returns-then-count-eq0-clause-cost c =
    rw (c.loop-level.invariant.cost, push-even c.loop-level.count c.if-count-eq0.true)
    (raised-none c.loop-level.meter)

pub loop-level-preserved : goal.loop-level-preserved
loop-level-preserved c =
    let i = c.loop-level.invariant in
    let j = c.loop-level.level in
    let n = c.loop-level.count in
    let p : 64 - j ≡ suc (64 - (j + 1)) = omega arith in
    let q = ap (λ k. 2 ^ k) p in
    record {
      places = i.places;
      room = omega (arith, q, pow-sum (64 - (j + 1)), i.room);
      size = i.size;
      carried = λ xs h. rw c.node_hash_counted-hash.ensures.hash
          (carried-on (omega (arith, i.places)) (omega arith) (i.carried xs h));
      cost = i.cost ∙ rw (
        push-odd n (omega arith),
        c.node_hash_counted-hash.ensures.cost,
        raised-raised,
      );
    }
