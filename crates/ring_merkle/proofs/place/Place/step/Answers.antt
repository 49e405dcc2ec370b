-- SPDX-License-Identifier: ISC
use Rattle.ring.proofs.Costs.{raised-none}
use Rattle.ring_merkle.proofs.place.Place.step.Goals as goal

pub returns-else-whole-clause-cost : goal.returns-else-whole-clause-cost
returns-else-whole-clause-cost c =
    rw (← c.is_right.ensures, c.if-is_right.false, c.if-whole.false) (raised-none c.args.meter.now)
