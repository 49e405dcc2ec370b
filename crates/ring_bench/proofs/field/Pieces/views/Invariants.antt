-- SPDX-License-Identifier: ISC
use Rattle.std.proofs.Common.{◌≡◌, ◌++◌, length, drop}
use Rattle.std.specs.List.{sum}
use Rattle.ring.specs.Pieces.{joined}
use Rattle.ring_bench.proofs.field.Pieces.views.Given as goal

-- the views so far and the rest are the bytes, and the lengths that are left are the rest's
abbrev pub invariant-pieces : goal.invariant-pieces
invariant-pieces g l = record {
  left : sum (drop l.len-index l.self.lens.items) ≡ length l.rest;
  same : joined l.views.items ++ l.rest ≡ l.self.bytes.items;
}
