-- SPDX-License-Identifier: ISC
use Rattle.std.proofs.Common.{◌≡◌, ◌-◌, ◌≤◌, drop, length, take}
use Rattle.ring.specs.Prelude.{AreUpdated, raised, update_each_blocks}
use Rattle.ring.proofs.digest.updates.update_all.Given as goal

abbrev pub decreases-parts : goal.decreases-parts
decreases-parts g l = length l.contexts - l.made

-- the first contexts are updated
abbrev pub invariant-parts : goal.invariant-parts
invariant-parts g l =
    record {
      within : l.made ≤ length l.contexts;
      count : length l.contexts ≡ length l.fn.contexts;
      updated : AreUpdated (take l.made l.fn.contexts) (take l.made l.contexts)
          (take l.made l.pieces);
      others : drop l.made l.contexts ≡ drop l.made l.fn.contexts;
      cost : l.meter ≡ raised l.fn.meter
          (update_each_blocks (take l.made l.fn.contexts) (take l.made l.pieces)) 0;
    }
