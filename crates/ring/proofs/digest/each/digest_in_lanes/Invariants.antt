-- SPDX-License-Identifier: ISC
use Rattle.std.proofs.Common.{◌≡◌, ◌+◌, ◌-◌, ◌*◌, length, take}
use Rattle.ring.specs.Prelude.{AreDigests, each_blocks, raised}
use Rattle.ring.proofs.digest.each.digest_in_lanes.Given as goal

-- the digests of the first i messages are there, and of the others the blocks in lanes are run
abbrev pub invariant-lanes : goal.invariant-lanes
invariant-lanes g l =
    record {
      digests : AreDigests (take l.i l.out) l.algorithm (take l.i l.messages);
      cost : l.meter ≡ raised l.fn.meter
          (each_blocks l.algorithm (take l.i l.messages) + (length l.messages - l.i) * l.count) 0;
    }
