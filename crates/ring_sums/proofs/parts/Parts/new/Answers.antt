-- SPDX-License-Identifier: ISC
use Rattle.ring_sums.proofs.ListParts.{prepend-none}
use Rattle.ring_sums.proofs.parts.Parts.new.Goals as goal

pub returns : goal.returns
returns g c = rw c.new.ensures.items (prepend-none (g.R.Read.remaining c.args.reader))
