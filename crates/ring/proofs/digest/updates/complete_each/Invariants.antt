-- SPDX-License-Identifier: ISC
use Rattle.std.proofs.Common.{◌≡◌, ◌-◌, ◌≤◌, length, take}
use Rattle.ring.specs.Prelude.{raised, update_each_blocks}
use Rattle.ring.proofs.lemmas.digest.Updates.{HaveChanged, IsBegun}
use Rattle.ring.proofs.digest.updates.complete_each.Given as goal

-- the first i contexts have no begun block, or no more of their pieces
abbrev pub invariant-contexts : goal.invariant-contexts
invariant-contexts l =
    record {
      room : length l.rests ≡ 8;
      changed : HaveChanged (IsBegun l.pieces l.rests) l.fn.contexts l.contexts l.i;
      within : update_each_blocks (take l.i l.contexts) (take l.i l.rests)
          ≤ update_each_blocks (take l.i l.fn.contexts) (take l.i l.pieces);
      cost : l.meter ≡ raised l.fn.meter
          (update_each_blocks (take l.i l.fn.contexts) (take l.i l.pieces)
          - update_each_blocks (take l.i l.contexts) (take l.i l.rests)) 0;
    }
