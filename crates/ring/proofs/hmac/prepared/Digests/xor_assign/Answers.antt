-- SPDX-License-Identifier: ISC
use Rattle.std.proofs.Common.{◌∙◌, ap}
use Rattle.ring.specs.Prelude.{digest_bytes}
use Rattle.ring.proofs.lemmas.digest.Words.{digest_bytes-xor}
use Rattle.ring.proofs.hmac.prepared.Digests.xor_assign.Goals as goal

pub returns : goal.returns
returns g c = λ i.
    let a = g.H.DigestBlock.algorithm in
    let lane = g.H.LaneStates.lane i in
    ap (digest_bytes a) (c.xor.ensures i)
    ∙ digest_bytes-xor a (lane c.args.self.now.words) (lane c.args.others.now.words)
