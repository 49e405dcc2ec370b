-- SPDX-License-Identifier: ISC
use Rattle.std.proofs.Common.{◌^◌, ◌<◌, ◌∙◌, Some, ap, arith, rules, sym}
use Rattle.ring.proofs.Costs.{raised-none, raised-raised}
use Rattle.ring_merkle.specs.Walk.{step_of}
use Rattle.ring_merkle.proofs.Walks.{hashed-next, hashed-stop, leads-next, leads-stop, walk-leads}
use Rattle.ring_merkle.proofs.place.Place.climb.Goals as goal

pub loop-value-preserved : goal.loop-value-preserved
loop-value-preserved c =
    let l = c.loop-value in
    let path = c.args.path.now in
    let lt = c.loop-value-test.true in
    let next = c.next-place.ensures in
    let more = hashed-next c.args.whole path l.value-index l.place.node l.place.last lt in
    rw (next.node, next.last) (record {
      leads = λ x k. rw c.step-reached.ensures.hash
          (leads-next path l.value-index lt (l.invariant.leads x k));
      cost = grind (arith, raised-raised, l.invariant.cost, more, c.step-reached.ensures.cost);
    })

pub returns-clause-reached : goal.returns-clause-reached
returns-clause-reached c =
    let fits : c.args.self.last < 2 ^ 64 = search rules in
    let to = walk-leads (step_of c.args.whole) c.args.self.node c.args.self.last c.args.hash.now
    c.args.path.now c.requires.within fits c.requires.len in
    to.1 ∙ ap Some (sym (leads-stop c.args.path.now c.loop-value.value-index c.loop-value-test.false
    (c.loop-value.invariant.leads to.0 (record { ends = to.1 }))))

pub returns-clause-cost : goal.returns-clause-cost
returns-clause-cost c =
    let l = c.loop-value in
    rw (
      l.invariant.cost,
      hashed-stop c.args.whole c.args.path.now l.value-index l.place.node l.place.last
          c.loop-value-test.false,
    ) (raised-none l.meter)
