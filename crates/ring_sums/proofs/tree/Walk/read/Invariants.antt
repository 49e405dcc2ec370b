-- SPDX-License-Identifier: ISC
use Rattle.ring_sums.specs.Tree.{Finds, with_slash}
use Rattle.ring_sums.proofs.Walked.{IsOpen}
use Rattle.ring_sums.proofs.tree.Walk.read.Given as goal

abbrev pub invariant-reads : goal.invariant-reads
invariant-reads g l =
    Finds g.S.Steps.events l.fn.self l.self (IsOpen (with_slash l.directory))
