-- SPDX-License-Identifier: ISC
use Rattle.ring_sums.specs.Sums.{KeepReaders}
use Rattle.ring_sums.proofs.sums.Sums.next_outcome.Given as goal

-- no outcome is given before the round that ends with it
abbrev pub invariant-rounds : goal.invariant-rounds
invariant-rounds g l = KeepReaders g.R.Read.remaining g.R.Source.fails_with l.fn.self l.self
