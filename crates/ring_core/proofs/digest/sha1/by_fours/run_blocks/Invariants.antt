-- SPDX-License-Identifier: ISC
use Rattle.ring_core.specs.Kernel.{RunsSha1}
use Rattle.ring_core.proofs.digest.sha1.by_fours.run_blocks.Given as goal

abbrev pub invariant-each : goal.invariant-each
invariant-each l = RunsSha1 l.fn.state l.state l.blocks.items.now l.i l.fn.meter l.meter
