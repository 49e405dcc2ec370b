-- SPDX-License-Identifier: ISC
use Rattle.std.proofs.Common.{None, true}
use Rattle.ring_sums.specs.Files.{name_of}
use Rattle.ring_sums.specs.Parts.{left_of}
use Rattle.ring_sums.specs.declared.files.Source.{Source}
use Rattle.ring_sums.proofs.CheckedParts.{IsCheckedTo}
use Rattle.ring_sums.proofs.check.check_parts.Given as goal

-- the parts before are checked
abbrev pub invariant-parts : goal.invariant-parts
invariant-parts g l =
    IsCheckedTo {S = Source g.row.R.Denot g.row.R-File.Denot g.row.R-Dir.Denot g.row.R-Reader.Denot}
    (λ reader. None) (λ reader error. true) name_of g.W.Write.contents l.options
    l.name.is_standard_input (left_of g.L.Read.remaining l.fn.parts)
    (left_of g.L.Read.remaining l.parts) l.number l.fn.seen.gap l.seen.gap l.counts l.fn.console
    l.console
