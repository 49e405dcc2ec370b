-- SPDX-License-Identifier: ISC
-- How the rises of a meter add up.
use Rattle.std.proofs.Common.{add-zero, zero-add}
use Rattle.ring.proofs.Costs.{raised-none, raised-raised}

pub ruleset rises = (raised-none, raised-raised, add-zero, zero-add)
