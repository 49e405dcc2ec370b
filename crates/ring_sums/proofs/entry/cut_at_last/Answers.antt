-- SPDX-License-Identifier: ISC
use Rattle.std.proofs.Common.{◌+◌}
use Rattle.std.proofs.lemmas.List.{take_rest}
use Rattle.ring_sums.proofs.Fronts.{last_cut-none, last_cut-place}
use Rattle.ring_sums.proofs.entry.cut_at_last.Goals as goal

pub returns-in-Some : goal.returns-in-Some
returns-in-Some c =
    let line = c.args.line.now in
    let last = c.in-Some.ensures in
    rw (take_rest line (c.in-Some.place + 1))
    (last_cut-place c.args.byte line c.in-Some.place last.0 last.1)

pub returns-in-None : goal.returns-in-None
returns-in-None c = λ cut is.
    last_cut-none c.args.byte c.args.line.now cut.0 cut.1 c.in-None.ensures is
