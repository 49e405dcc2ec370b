-- SPDX-License-Identifier: ISC
use Rattle.std.proofs.Common.{◌-◌, arith}
use Rattle.ring_merkle.proofs.Shifts.{even-below}
use Rattle.ring_merkle.proofs.consistency.first_place.Goals as goal

pub returns-clause-within : goal.returns-clause-within
returns-clause-within c =
    omega (
      arith,
      c.requires.nonempty,
      c.requires.within,
      c.even.ensures.node,
      c.even.ensures.last,
      even-below 64 (c.args.first_size - 1) (c.args.second_size - 1),
    )
