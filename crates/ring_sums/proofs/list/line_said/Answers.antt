-- SPDX-License-Identifier: ISC
use Rattle.std.proofs.Common.{ap, ◌∙◌}
use Rattle.ring_sums.specs.List.{said_of}
use Rattle.ring_sums.proofs.list.line_said.Goals as goal

pub returns : goal.returns
returns c =
    let read = c.in_ok-entry.ensures in
    record {
      reading = read.0;
      reads = read.1;
      is = c.said.ensures ∙ ap (λ o. said_of o c.args.number c.args.is_standard_input) read.2;
      leaves = read.3;
    }
