-- SPDX-License-Identifier: ISC
use Rattle.std.proofs.Common.{length, arith}
use Rattle.std.proofs.lemmas.Bool.{and_left, and_right, le-ltb}
use Rattle.ring_merkle.proofs.Rises.{raised-not}
use Rattle.ring_merkle.proofs.consistency.is_consistent.Goals.{
  then-first-eq0-via-else-first-eq0+then-first-second,
  then-first-eq0-via-then-first-eq0,
}
use Rattle.ring_merkle.proofs.consistency.is_consistent.Goals as goal

pub returns-then-first-eq0-clause-cost : goal.returns-then-first-eq0-clause-cost
returns-then-first-eq0-clause-cost c =
    elim c.then-first-eq0.branch [
      | then-first-eq0-via-then-first-eq0 w ↦ raised-not _ _
          (and_left _ _ (and_left _ _ (le-ltb 0 c.args.first.size
          (omega (arith, w.if-first-eq0.true)))))
      | then-first-eq0-via-else-first-eq0+then-first-second w ↦
          raised-not _ _ (and_left _ _ (and_right _ _
          (le-ltb c.args.first.size c.args.second.size
          (omega (arith, w.if-first-second.true)))))
    ]

pub returns-in_default-clause-cost : goal.returns-in_default-clause-cost
returns-in_default-clause-cost c =
    raised-not _ _ (and_right _ _ (le-ltb 0 (length c.args.path.now)
    (omega (arith, c.in_default.ensures.cases))))
