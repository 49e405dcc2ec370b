-- SPDX-License-Identifier: ISC
use Rattle.std.proofs.Common.{sym, ap, ◌∙◌}
use Rattle.ring_store.specs.Records.{named}
use Rattle.ring_store.proofs.Entries.{entries-shown}
use Rattle.ring_store.proofs.records.Records.iter.Goals as goal

pub returns : goal.returns
returns g c =
    let given = c.iter.ensures in
    ap named given.rest
    ∙ sym (entries-shown c.self.inside.by_name.entries c.self.view_is given.ordered)
