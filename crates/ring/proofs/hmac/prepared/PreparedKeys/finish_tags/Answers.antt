-- SPDX-License-Identifier: ISC
use Rattle.ring.proofs.Lanes.{signed-outside}
use Rattle.ring.proofs.hmac.prepared.PreparedKeys.finish_tags.Goals as goal

pub returns-clause-ok : goal.returns-clause-ok
returns-clause-ok g c = λ i k m stands inside.
    let run = c.hash_digests in
    let lane = g.H.LaneStates.lane i in
    signed-outside (lane c.args.inside.now.words) (lane run.new.states) k m (run.ensures.ok i)
    (run.ensures.eight i) stands inside
