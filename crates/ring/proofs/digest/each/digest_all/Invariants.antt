-- SPDX-License-Identifier: ISC
use Rattle.std.proofs.Common.{◌-◌, ◌≤◌, length}
use Rattle.ring.proofs.Each.{HaveDigests}
use Rattle.ring.proofs.digest.each.digest_all.Given as goal

abbrev pub decreases-parts : goal.decreases-parts
decreases-parts g l = length l.messages - l.made

abbrev pub invariant-parts : goal.invariant-parts
invariant-parts g l =
    record {
      within : l.made ≤ length l.messages;
      have : HaveDigests l.algorithm l.messages l.made l.out l.fn.meter l.meter;
    }
