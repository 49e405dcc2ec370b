-- SPDX-License-Identifier: ISC
use Rattle.ring_sums.proofs.Lists.{lines-one}
use Rattle.ring_sums.proofs.ReadLines.{reading-one}
use Rattle.ring_sums.proofs.laws.lines_are_read_in_one_way.Goals as goal

pub returns-clause-line : goal.returns-clause-line
returns-clause-line c = λ asked line. reading-one

pub returns-clause-lines : goal.returns-clause-lines
returns-clause-lines c = lines-one
