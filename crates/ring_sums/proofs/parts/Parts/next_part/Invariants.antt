-- SPDX-License-Identifier: ISC
use Rattle.std.proofs.Common.{◌<◌, []}
use Rattle.std.specs.Io.KnownBytes.{Consumes}
use Rattle.ring_sums.specs.Parts.{left_of}
use Rattle.ring_sums.proofs.parts.Parts.next_part.Given as goal

-- no part has come
abbrev pub invariant-reads : goal.invariant-reads
invariant-reads g l = record {
  room : 0 < l.block.len;
  left : Consumes (left_of g.R.Read.remaining l.fn.self) (left_of g.R.Read.remaining l.self) [];
}
