-- SPDX-License-Identifier: ISC
use Rattle.std.proofs.Common.{arith}
use Rattle.ring_core.proofs.digest.sha1.window.next_in_two_lanes.Goals as goal

pub returns-clause-first : goal.returns-clause-first
returns-clause-first g c = grind (arith, c.next_word-next.ensures 0)

pub returns-clause-second : goal.returns-clause-second
returns-clause-second g c = grind (arith, c.next_word-next.ensures 1)
