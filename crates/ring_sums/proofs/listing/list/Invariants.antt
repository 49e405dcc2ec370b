-- SPDX-License-Identifier: ISC
use Rattle.std.proofs.Common.{◌≡◌, List, length}
use Rattle.ring_sums.specs.Listing.{IsListed}
use Rattle.ring_sums.specs.Outcomes.{AreDone, FilesToCome}
use Rattle.ring_sums.specs.declared.outcomes.Wanted.{Wanted}
use Rattle.ring_sums.proofs.listing.list.Given as goal

-- the lines of the first files are written
abbrev pub invariant-loop-name : goal.invariant-loop-name
invariant-loop-name g l =
    (files : List (Wanted g.row.S.Denot))
    → FilesToCome g.S.Read.remaining g.S.Source.fails_with files l.fn.outcomes
    → length l.fn.names ≡ length files
    → AreDone g.S.Read.remaining g.S.Source.fails_with files l.outcomes
    (λ done. (length done ≡ l.name-index)
    × IsListed g.S.Read.remaining g.S.Source.fails_with g.W.Write.contents l.options l.names done
    l.is_fine l.fn.console l.console)
