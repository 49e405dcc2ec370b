-- SPDX-License-Identifier: ISC
use Rattle.std.proofs.lemmas.List.{take_rest}
use Rattle.ring_sums.proofs.Fronts.{white-all, white-place}
use Rattle.ring_sums.proofs.entry.without_white.Goals as goal

pub returns-in-Some : goal.returns-in-Some
returns-in-Some c =
    rw (take_rest c.args.bytes.now c.in-Some.place)
    (white-place c.args.bytes.now c.in-Some.place c.in-Some.ensures)

pub returns-in-None : goal.returns-in-None
returns-in-None c = white-all c.args.bytes.now c.in-None.ensures
