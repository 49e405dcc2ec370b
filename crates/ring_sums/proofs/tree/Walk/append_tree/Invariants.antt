-- SPDX-License-Identifier: ISC
use Rattle.ring_sums.proofs.Walked.{IsWalkedTo}
use Rattle.ring_sums.proofs.tree.Walk.append_tree.Given as goal

abbrev pub invariant-directories : goal.invariant-directories
invariant-directories g l = IsWalkedTo g.S.Steps.events l.directory l.fn.self l.self
