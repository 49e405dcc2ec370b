-- SPDX-License-Identifier: ISC
use Rattle.std.proofs.Common.{◌<◌, ◌≤◌, ◌∙◌, arith, get_or, length, subst}
use Rattle.std.proofs.lemmas.List.{get_or_default}
use Rattle.ring_sums.specs.Lane.{IsRead}
use Rattle.ring_sums.proofs.InLanes.{in-read, stepped-all, stepped-next}
use Rattle.ring_sums.proofs.lanes.Lanes.read.Goals as goal

pub returns-clause-going : goal.returns-clause-going
returns-clause-going g c = λ a readers first.
    let all : length c.args.self.now.lanes.items ≤ c.lanes.i =
    omega (arith, c.lanes-test.false, c.len-i-end.ensures, c.args.self.now.lanes.ok.0) in
    rw c.lanes.invariant.contexts (stepped-all (λ x y s. s.place)
    (λ r x y context. in-read) c.lanes.invariant.reading all first)

pub lanes-preserved : goal.lanes-preserved
lanes-preserved g c =
    let i = c.lanes.i in
    let lanes = c.lanes.self.lanes in
    let lane = c.read.new.self in
    let have = c.lanes.invariant.reading in
    let below : i < length c.args.self.now.lanes.items =
    omega (arith, c.lanes-test.true, c.len-i-end.ensures, c.args.self.now.lanes.ok.0) in
    let step : IsRead g.R.Read.remaining g.R.Source.fails_with (get_or lanes.items i lane) lane =
    subst (λ z. IsRead g.R.Read.remaining g.R.Source.fails_with z lane)
    (c.index_mut.ensures.value
    ∙ get_or_default lanes.items i _ lane (omega (arith, have.count, below))) c.read.ensures in
    record {
      reading = stepped-next {Step = IsRead g.R.Read.remaining g.R.Source.fails_with} i lane lane
          have below step;
      contexts = c.lanes.invariant.contexts;
    }
