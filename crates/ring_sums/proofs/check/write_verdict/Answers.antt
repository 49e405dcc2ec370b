-- SPDX-License-Identifier: ISC
use Rattle.std.proofs.Common.{sym}
use Rattle.ring_sums.proofs.Listed.{written-none}
use Rattle.ring_sums.proofs.check.write_verdict.Goals as goal

pub returns-in_default : goal.returns-in_default
returns-in_default g c = rw (sym c.in_default.ensures) written-none

pub returns : goal.returns
returns g c =
    let line = c.in_ok-append_verdict_line.ensures in
    rw (sym c.in-Some.ensures)
    (rw (c.deref.ensures.value, line, c.new-line.ensures.items) at c.write.ensures)
