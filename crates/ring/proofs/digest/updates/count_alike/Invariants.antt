-- SPDX-License-Identifier: ISC
use Rattle.ring.specs.Prelude.{AreAlike}
use Rattle.ring.proofs.digest.updates.count_alike.Given as goal

abbrev pub invariant-contexts : goal.invariant-contexts
invariant-contexts l = AreAlike l.contexts l.i
