-- SPDX-License-Identifier: ISC
use Rattle.std.proofs.Common.{◌≡◌, ℕ, ◌<◌, get_or, length, take}
use Rattle.ring.specs.Prelude.{Output, digest_at, output_len}
use Rattle.ring.proofs.hmac.prepared.Digests.write.Given as goal

-- the first i digests are written
abbrev pub invariant-lanes : goal.invariant-lanes
invariant-lanes g l =
    let a = g.H.DigestBlock.algorithm in
    let lane = g.H.LaneStates.lane in
    record {
      count : length l.outputs ≡ g.H.LaneStates.LANES;
      written : (d : Output) (k : ℕ) → k < l.i
          → take (output_len a) (get_or l.outputs k d).0 ≡ digest_at a (lane k) l.self;
    }
