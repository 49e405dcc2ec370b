-- SPDX-License-Identifier: ISC
use Rattle.std.proofs.Common.{None, arith, refl, true}
use Rattle.ring_sums.specs.Entry.{Listed}
use Rattle.ring_sums.proofs.TaggedForm.{among-all}
use Rattle.ring_sums.proofs.WrittenLines.{line-reads, tagged-text}
use Rattle.ring_sums.proofs.laws.tagged_lines_read_back.Goals as goal

pub returns-clause-asked : goal.returns-clause-asked
returns-clause-asked c = λ a digest name line gap is.
    let listed : Listed = record { algorithm = a; digest = digest; name = name } in
    line-reads true None listed (tagged-text listed is (0, omega arith, refl) None gap) line

pub returns-clause-unasked : goal.returns-clause-unasked
returns-clause-unasked c = λ a digest name line gap is.
    let listed : Listed = record { algorithm = a; digest = digest; name = name } in
    line-reads true None listed (tagged-text listed is (among-all a.id) None gap) line
