-- SPDX-License-Identifier: ISC
use Rattle.std.proofs.Common.{length}
use Rattle.ring_sums.proofs.Walked.{AreTakenTo}
use Rattle.ring_sums.proofs.tree.Walk.take_names.Given as goal

abbrev pub invariant-names : goal.invariant-names
invariant-names g l =
    AreTakenTo g.S.Steps.events l.directory l.names l.rest l.fn.self l.self

abbrev pub decreases-names : goal.decreases-names
decreases-names g l = length l.rest
