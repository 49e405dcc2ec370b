-- SPDX-License-Identifier: ISC
use Rattle.std.proofs.Common.{arith}
use Rattle.ring_sums.proofs.Walked.{on_ok, taken-last, taken-more, taken-none}
use Rattle.ring_sums.proofs.tree.Walk.take_names.Goals as goal

pub names-init : goal.names-init
names-init g c = taken-none c.args.directory.now c.args.names.now c.args.self.now

pub names-preserved : goal.names-preserved
names-preserved g c =
    taken-more c.args.directory.now c.args.names.now c.names.invariant c.in-Some.ensures.ok
    c.in_ok-take_name.ensures

pub returns : goal.returns
returns g c =
    on_ok c.take_name-2.result c.take_name-2.ensures
    (taken-last c.args.directory.now c.args.names.now c.names.rest.now c.names.invariant
    (c.in_default.ensures.refused (grind arith)))
