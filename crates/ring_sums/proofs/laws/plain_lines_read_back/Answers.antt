-- SPDX-License-Identifier: ISC
use Rattle.std.proofs.Common.{false, refl}
use Rattle.ring_sums.specs.Entry.{Listed}
use Rattle.ring_sums.proofs.WrittenLines.{line-reads, plain-text, shown}
use Rattle.ring_sums.proofs.laws.plain_lines_read_back.Goals as goal

pub returns-clause-asked : goal.returns-clause-asked
returns-clause-asked c = λ a digest name line is_binary gap is named free written.
    let listed : Listed = record { algorithm = a; digest = digest; name = name } in
    line-reads false is_binary listed (plain-text listed is refl named is_binary gap free) line
    written

pub returns-clause-unasked : goal.returns-clause-unasked
returns-clause-unasked c = λ a digest name line is_binary gap is named free written other.
    let listed : Listed = record { algorithm = a; digest = digest; name = name } in
    line-reads false is_binary listed
    (plain-text listed is (shown listed is other) named is_binary gap free) line written
