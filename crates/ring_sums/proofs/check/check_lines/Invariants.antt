-- SPDX-License-Identifier: ISC
use Rattle.std.proofs.Common.{List, take}
use Rattle.ring_sums.specs.Check.{AreFilesOf, IsChecked, entries_of}
use Rattle.ring_sums.specs.Outcomes.{AreDone, FilesToCome}
use Rattle.ring_sums.specs.declared.outcomes.Wanted.{Wanted}
use Rattle.ring_sums.proofs.check.check_lines.Given as goal

-- the first lines are checked
abbrev pub invariant-loop-line : goal.invariant-loop-line
invariant-loop-line g l =
    (files : List (Wanted g.row.S.Denot)) → AreFilesOf (entries_of l.fn.lines) files
    → FilesToCome g.S.Read.remaining g.S.Source.fails_with files l.fn.outcomes
    → AreDone g.S.Read.remaining g.S.Source.fails_with files l.outcomes
    (λ done. IsChecked g.S.Read.remaining g.S.Source.fails_with g.W.Write.contents l.options
    (take l.line-index l.lines) done l.counts l.fn.console l.console)
