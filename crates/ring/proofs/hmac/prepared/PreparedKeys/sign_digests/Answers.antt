-- SPDX-License-Identifier: ISC
use Rattle.std.proofs.Common.{arith}
use Rattle.ring.proofs.Lanes.{signed-inside}
use Rattle.ring.proofs.Sums.{raised-sum}
use Rattle.ring.proofs.hmac.prepared.PreparedKeys.sign_digests.Goals as goal

pub returns-clause-ok : goal.returns-clause-ok
returns-clause-ok g c = λ i k stands.
    let run = c.hash_digests in
    let lane = g.H.LaneStates.lane i in
    c.finish_tags.ensures.ok i k _ stands (signed-inside (lane c.args.digests.now.words)
    (lane run.new.states) k (run.ensures.ok i) (run.ensures.eight i) stands)

pub returns-clause-cost : goal.returns-clause-cost
returns-clause-cost g c =
    raised-sum _ _ _ c.hash_digests.ensures.cost c.finish_tags.ensures.cost (grind arith)
