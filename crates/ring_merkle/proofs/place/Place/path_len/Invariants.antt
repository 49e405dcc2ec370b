-- SPDX-License-Identifier: ISC
use Rattle.std.proofs.Common.{◌≡◌, ◌+◌, ◌≤◌}
use Rattle.ring_merkle.specs.Cost.{path_len}
use Rattle.ring_merkle.proofs.place.Place.path_len.Given as goal

abbrev pub invariant-loop-place : goal.invariant-loop-place
invariant-loop-place l = record {
  within : l.place.node ≤ l.place.last;
  all : path_len l.initial.place.node l.initial.place.last
      ≡ l.len + path_len l.place.node l.place.last;
}

abbrev pub decreases-loop-place : goal.decreases-loop-place
decreases-loop-place l = l.place.last
