-- SPDX-License-Identifier: ISC
use Rattle.std.proofs.Common.{◌≡◌, ◌++◌, ℕ, List, Option, arith, length}
use Rattle.std.proofs.Common.{subst, sym}
use Rattle.std.specs.Vec.Iter.{into_iter_items}
use Rattle.ring_sums.specs.Found.{AreFound}
use Rattle.ring_sums.specs.declared.lane.Lane.{Lane}
use Rattle.ring_sums.specs.declared.outcome.Outcome.{Outcome}
use Rattle.ring_sums.proofs.SumsToCome.{to-come, whole-many}
use Rattle.ring_sums.proofs.sums.Sums.end.Goals as goal

pub returns : goal.returns
returns g c = λ a readers first.
    let old = c.args.self.now in
    let given = c.saturating_sub-given.result in
    let waiting = into_iter_items old.waiting in
    let all = whole-many readers first.begun waiting first.whole in
    let is : given ≡ length first.given =
    omega (
      arith,
      c.saturating_sub-given.ensures,
      c.saturating_sub.ensures,
      c.len.ensures,
      old.waiting.rest.ok,
      c.len-2.ensures,
      old.found.ok.0,
      all,
      first.total,
      first.count,
    ) in
    let P : ℕ → List (Option Outcome) → List (Lane _) → Type 0 = λ z.
    AreFound g.R.Read.remaining g.R.Source.fails_with a (first.given ++ readers) z in
    let ended = c.in_ok-end.ensures.going a (first.given ++ readers) first.reading
    (subst (λ (z : ℕ). P z old.found.items old.lanes.lanes.items) (sym is) first.found) in
    to-come c.end.new.found c.end.new.self first c.in_ok-end.ensures.count ended.0
    (subst (λ (z : ℕ). P z c.end.new.found.items c.end.new.self.lanes.items) is ended.1)
