-- SPDX-License-Identifier: ISC
use Rattle.ring.proofs.Costs.{raised-none}
use Rattle.ring_merkle.proofs.tree.node_over.Goals as goal

pub returns-in-None-clause-cost : goal.returns-in-None-clause-cost
returns-in-None-clause-cost c = rw c.in-None.is (raised-none c.args.meter.now)
