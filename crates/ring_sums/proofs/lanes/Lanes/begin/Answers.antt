-- SPDX-License-Identifier: ISC
use Rattle.ring_sums.proofs.InLanes.{in-begun}
use Rattle.ring_sums.proofs.lanes.Lanes.begin.Goals as goal

pub returns-clause-begun : goal.returns-clause-begun
returns-clause-begun g c =
    record {
      lane = c.new-2.result;
      at = c.new-2.ensures.placed;
      lanes = rw c.if-is_err.ensures.negation at c.push-2.ensures.items;
    }

pub returns-clause-going : goal.returns-clause-going
returns-clause-going g c = λ readers is all.
    let pushed = rw c.if-is_err.ensures.negation at c.push-2.ensures.items in
    rw (c.in_ok-push.ensures.items, pushed)
    (in-begun c.new-2.result c.new.result all is c.new-2.ensures c.new.ensures.stands
    c.new.ensures.algorithm)
