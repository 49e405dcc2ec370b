-- SPDX-License-Identifier: ISC
use Rattle.std.proofs.Common.{length}
use Rattle.ring_sums.specs.Outcomes.{AreGathered}
use Rattle.ring_sums.proofs.outcomes.Outcomes.gather.Given as goal

-- the readers are those of the files that do not wait any more
abbrev pub invariant-next : goal.invariant-next
invariant-next g l =
    AreGathered l.algorithm l.fn.readers.items l.readers.items l.fn.self.waiting.items
    l.self.waiting.items

abbrev pub decreases-next : goal.decreases-next
decreases-next g l = length l.self.waiting.items
