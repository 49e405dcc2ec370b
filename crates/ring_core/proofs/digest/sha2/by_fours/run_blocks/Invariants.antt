-- SPDX-License-Identifier: ISC
use Rattle.std.proofs.Common.{map}
use Rattle.ring_core.specs.Kernel.{RunsSha2}
use Rattle.ring_core.proofs.digest.sha2.by_fours.run_blocks.Given as goal

abbrev pub invariant-each : goal.invariant-each
invariant-each g l =
    let words = map (g.S.LaneWord.lane 0) in
    RunsSha2 g.S.One.Sha2.family (words l.fn.state) (words l.state) l.blocks.items.now l.i
    l.fn.meter l.meter
