-- SPDX-License-Identifier: ISC
use Rattle.std.proofs.Common.{inr}
use Rattle.ring_sums.specs.Tree.{IsNamed, IsOperandFound}
use Rattle.ring_sums.proofs.Operands.{Names-map}
use Rattle.ring_sums.proofs.Walked.{on_ok}
use Rattle.ring_sums.proofs.tree.Walk.append_operand.Goals as goal

pub returns-in-Err-clause-ok : goal.returns-in-Err-clause-ok
returns-in-Err-clause-ok g c =
    on_ok c.append_name.result c.append_name.ensures.ok
    (Names-map (IsNamed c.args.name.now) (IsOperandFound c.args.self.now.output c.args.name.now)
    (λ events names one. inr (c.in-Err.ensures.cases.0, one)))
