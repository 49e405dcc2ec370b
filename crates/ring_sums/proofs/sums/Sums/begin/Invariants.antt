-- SPDX-License-Identifier: ISC
use Rattle.std.proofs.Common.{length}
use Rattle.std.specs.Vec.Iter.{into_iter_items}
use Rattle.ring_sums.specs.Sums.{KeepReaders}
use Rattle.ring_sums.proofs.sums.Sums.begin.Given as goal

abbrev pub decreases-free : goal.decreases-free
decreases-free g l = length (into_iter_items l.self.waiting)

-- each new lane is of the reader at its place
abbrev pub invariant-free : goal.invariant-free
invariant-free g l = KeepReaders g.R.Read.remaining g.R.Source.fails_with l.fn.self l.self
