-- SPDX-License-Identifier: ISC
use Rattle.std.proofs.Common.{◌≡◌, ◌-◌, length, take}
use Rattle.ring.specs.Prelude.{each_blocks, raised}
use Rattle.ring.proofs.lemmas.digest.Written.{AreWritten}
use Rattle.ring.proofs.digest.each.write_all.Given as goal

abbrev pub invariant-groups : goal.invariant-groups
invariant-groups g l =
    record {
      written : AreWritten l.algorithm l.messages l.made l.written l.out;
      cost : l.meter ≡ raised l.fn.meter (each_blocks l.algorithm (take l.made l.messages)) 0;
    }

abbrev pub decreases-groups : goal.decreases-groups
decreases-groups g l = length l.messages - l.made
