-- SPDX-License-Identifier: ISC
use Rattle.std.specs.FinMap as table
use Rattle.std.specs.Cmp.Lexicographic.{nat_list_cmp_total}
use Rattle.ring_store.proofs.Names.{shows-updated}
use Rattle.ring_store.proofs.records.Records.remove.Goals as goal

pub returns-clause-removed : goal.returns-clause-removed
returns-clause-removed g c =
    shows-updated c.self.inside.by_name c.remove.new.self c.self.view_is c.args.name.now
    c.remove.ensures.updates _ (table.get-remove nat_list_cmp_total c.args.self.now c.args.name.now)
