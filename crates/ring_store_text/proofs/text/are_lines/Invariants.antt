-- SPDX-License-Identifier: ISC
use Rattle.std.proofs.Common.{[], ◌≤◌, length, take}
use Rattle.std.specs.Prelude.{◌↔◌}
use Rattle.ring_store_text.specs.Text.{AreLines}
use Rattle.ring_store_text.proofs.text.are_lines.Given as goal

abbrev pub invariant-loop-rest : goal.invariant-loop-rest
invariant-loop-rest l = record {
  short : l.last_len ≤ length l.last;
  read : AreLines [] l.lines ↔ AreLines (take l.last_len l.last) l.rest;
}

abbrev pub decreases-loop-rest : goal.decreases-loop-rest
decreases-loop-rest l = length l.rest
