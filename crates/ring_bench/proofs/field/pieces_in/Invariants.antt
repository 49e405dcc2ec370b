-- SPDX-License-Identifier: ISC
use Rattle.std.proofs.Common.{◌≡◌, length}
use Rattle.std.specs.List.{slice_split, sum}
use Rattle.ring_bench.specs.Field.{is_comma, parts_bytes}
use Rattle.ring_bench.proofs.Parts.{behind}
use Rattle.ring_bench.proofs.field.pieces_in.Given as goal

-- the bytes so far, and those of the parts that are left, are those of all parts
abbrev pub invariant-parts : goal.invariant-parts
invariant-parts g l = record {
  whole : sum l.lens.items ≡ length l.bytes.items;
  same : parts_bytes (slice_split is_comma l.field)
      ≡ behind l.bytes.items (parts_bytes (slice_split is_comma l.rest));
}

abbrev pub decreases-parts : goal.decreases-parts
decreases-parts g l = length l.rest
