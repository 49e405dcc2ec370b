-- SPDX-License-Identifier: ISC
use Rattle.std.proofs.Common.{◌≡◌, ◌+◌, ◌≤◌, length, map}
use Rattle.ring_sums.specs.List.{lines_in, said_by}
use Rattle.ring_sums.proofs.Lists.{IsSaidTo}
use Rattle.ring_sums.proofs.list.lines_of.Given as goal

abbrev pub invariant-cuts : goal.invariant-cuts
invariant-cuts l = record {
  room : l.number + length l.rest ≤ l.fn.number + length l.text;
  many : l.number + length (lines_in l.rest) ≡ l.fn.number + length (lines_in l.text);
  said : IsSaidTo l.asked l.is_standard_input (l.fn.number + 1) l.fn.gap l.text (l.number + 1)
      l.gap (map said_by l.lines.items) l.rest;
}

abbrev pub decreases-cuts : goal.decreases-cuts
decreases-cuts l = length l.rest
