-- SPDX-License-Identifier: ISC
use Rattle.std.proofs.Common.{◌≡◌, ◌<◌, ◌∙◌, IsNone, IsTrue, arith, get_or, length, refl, subst}
use Rattle.std.proofs.Common.{sym}
use Rattle.std.proofs.lemmas.List.{get_or_default}
use Rattle.ring.specs.declared.digest.context.Context.{Context}
use Rattle.ring_sums.specs.Lane.{left_of}
use Rattle.ring_sums.specs.Lanes.{IsPlaced}
use Rattle.ring_sums.specs.declared.lane.Lane.{Lane}
use Rattle.ring_sums.proofs.FoundOutcomes.{found-put}
use Rattle.ring_sums.proofs.InLanes.{in-swapped, zipped-at}
use Rattle.ring_sums.proofs.lanes.Lanes.end.Goals as goal

pub lanes-preserved-in-Continue-1 : goal.lanes-preserved-in-Continue-1
lanes-preserved-in-Continue-1 g c =
    let i = c.lanes.i in
    let lanes = c.lanes.self.lanes in
    let contexts = c.lanes.self.contexts in
    let lane = c.swap_remove-lane.result in
    let context = c.swap_remove-context.result in
    let taken = c.swap_remove-lane.ensures in
    let given = c.swap_remove-context.ensures in
    let below : i < length lanes.items =
    omega (arith, c.lanes-test.true, c.len.ensures, lanes.ok.0) in
    let over : IsNone lane.failure → IsTrue lane.has_ended =
    let same : c.index.result.now ≡ lane =
    c.index.ensures ∙ get_or_default lanes.items i _ lane
    below ∙ sym taken.value in
    subst (λ (z : Lane _). IsNone z.failure → IsTrue z.has_ended) same
    (c.if-is_over.ensures refl) in
    record {
      count = c.put.ensures.count ∙ c.lanes.invariant.count;
      going = λ a readers first found.
          let so = c.lanes.invariant.going a readers first found in
          let P : Lane _ → Context → Type 0 =
          IsPlaced g.R.Read.remaining g.R.Source.fails_with a readers left_of in
          let is : P lane context =
          subst (λ z. P z context) (sym taken.value)
          (subst (P (get_or lanes.items i lane)) (sym given.value)
          (zipped-at P lanes.items contexts.items i lane context so.0.each below)) in (
            rw (taken.items, given.items)
                (in-swapped i lane context so.0 (omega (arith, below))),
            found-put lane below taken.value taken.items so.1 c.put.ensures
                (λ r. c.outcome-outcome.ensures a (get_or readers lane.place r) (is r)
                over),
          );
    }
