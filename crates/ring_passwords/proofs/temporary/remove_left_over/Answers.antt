-- SPDX-License-Identifier: ISC
use Rattle.ring_passwords.proofs.Replaced.{swept_to_the_last, visit, visited}
use Rattle.ring_passwords.proofs.temporary.remove_left_over.Goals as goal

pub returns-in_default-next_name : goal.returns-in_default-next_name
returns-in_default-next_name g c =
    swept_to_the_last c.args.path.now c.args.folder.now c.names._read c.names.invariant
    c.in_default-next_name.ensures

pub names-preserved : goal.names-preserved
names-preserved g c =
    let path = c.args.path.now in
    visited path c.args.folder.now c.names._read {c = g.S.Steps.events c.look_at.new.steps}
    c.names.invariant
    (visit path _ {c = g.S.Steps.events c.look_at.new.steps} c.in-Some.ensures c.look_at.ensures)
