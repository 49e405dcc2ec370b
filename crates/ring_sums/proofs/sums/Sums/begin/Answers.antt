-- SPDX-License-Identifier: ISC
use Rattle.std.proofs.Common.{◌≡◌, ◌+◌, ◌∷◌, ◌++◌, [], None, append_assoc, arith}
use Rattle.std.proofs.Common.{length, length-append, refl, subst, sym}
use Rattle.std.specs.Vec.Iter.{into_iter_items}
use Rattle.ring.specs.declared.digest.algorithm.Algorithm.{Algorithm}
use Rattle.ring_sums.specs.Lane.{left_of}
use Rattle.ring_sums.specs.Lanes.{AreIn}
use Rattle.ring_sums.specs.declared.lanes.Lanes.{Lanes}
use Rattle.ring_sums.proofs.FoundOutcomes.{found-more}
use Rattle.ring_sums.proofs.SumsToCome.{reader-next, whole-many}
use Rattle.ring_sums.proofs.sums.Sums.begin.Goals as goal

pub free-preserved : goal.free-preserved
free-preserved g c = λ a readers first.
    let so = c.free.invariant a readers first in
    let reader = c.in-Some.reader in
    let rest = into_iter_items c.next.new.self in
    let whole : readers ≡ so.begun ++ reader ∷ rest = rw c.in-Some.ensures.items at so.whole in
    let all = whole-many readers so.begun (reader ∷ rest) whole in
    let number = c.saturating_sub-place.result in
    let one_less : length (into_iter_items c.free.self.waiting) ≡ length (reader ∷ rest) =
    rw c.in-Some.ensures.items refl in
    let at : number ≡ length so.given + length so.begun =
    omega (
      arith,
      so.total,
      all,
      c.saturating_sub-place.ensures,
      c.len.ensures,
      c.free.self.waiting.rest.ok,
      one_less,
    ) in
    let old = c.free.self.lanes in
    let new = c.begin.new.self in
    let P : Lanes _ → Algorithm → Type 0 = λ l z.
    AreIn g.R.Read.remaining g.R.Source.fails_with z (so.given ++ readers) left_of l.lanes.items
    l.contexts.items in
    let lanes : P old c.free.self.algorithm = subst (P old) (sym so.algorithm) so.reading in
    let begun = c.in_ok-begin.ensures.going (so.given ++ readers)
    (reader-next so.given so.begun rest reader number whole at) lanes in
    record {
      given = so.given;
      begun = so.begun ++ reader ∷ [];
      whole = rw append_assoc whole;
      algorithm = so.algorithm;
      total = so.total;
      count = rw (c.push_back_reserved.ensures.items, c.reserve.ensures.items) (omega (
        arith,
        so.count,
        length-append c.free.self.found.items (None ∷ []),
        length-append so.begun (reader ∷ []),
      ));
      reading = subst (P new) so.algorithm begun;
      found = rw (c.push_back_reserved.ensures.items, c.reserve.ensures.items)
          (found-more so.found c.in_ok-begin.ensures.begun (omega (arith, at, so.count)));
    }
