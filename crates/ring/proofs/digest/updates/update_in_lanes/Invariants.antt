-- SPDX-License-Identifier: ISC
use Rattle.std.proofs.Common.{◌≡◌, ◌+◌, ◌-◌, ◌*◌, length, take}
use Rattle.ring.specs.Prelude.{raised, update_each_blocks}
use Rattle.ring.proofs.lemmas.digest.Updates.{HaveChanged, IsUpdatedAt}
use Rattle.ring.proofs.digest.updates.update_in_lanes.Given as goal

-- begun blocks are completed, the first i contexts are updated, and of the others the blocks in
-- lanes are run
abbrev pub invariant-lanes : goal.invariant-lanes
invariant-lanes g l =
    record {
      changed : HaveChanged (IsUpdatedAt l.rests) l.initial.contexts l.contexts l.i;
      cost : l.meter ≡ raised l.fn.meter
          (update_each_blocks l.fn.contexts l.pieces
          - update_each_blocks l.initial.contexts l.rests
          + update_each_blocks (take l.i l.initial.contexts) (take l.i l.rests)
          + (length l.initial.contexts - l.i) * l.count) 0;
    }
