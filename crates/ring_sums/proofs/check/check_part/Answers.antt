-- SPDX-License-Identifier: ISC
use Rattle.ring_sums.proofs.CheckedParts.{part-checked}
use Rattle.ring_sums.proofs.check.check_part.Goals as goal

pub returns-clause-checked : goal.returns-clause-checked
returns-clause-checked g c =
    let files = c.in_ok-wanted.ensures in
    let wanted = c.in_ok-wanted.wanted.items in
    part-checked {after = c.lines_of.new.gap} {left = c.check_lines.new.outcomes}
    c.in_ok-lines.lines.items c.deref.result.now c.deref-2.result.now wanted
    c.deref.ensures.value c.deref-2.ensures.value c.in_ok-lines.ensures.says files.files files.names
    (λ of. c.in_ok-counts.ensures wanted of c.new-outcomes.ensures)
