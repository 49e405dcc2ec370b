-- SPDX-License-Identifier: ISC
use Rattle.std.proofs.Common.{map, take}
use Rattle.ring_sums.specs.Tree.{AreOperandsFound, IsIdle, Names}
use Rattle.ring_sums.proofs.tree.Walk.append_operands.Given as goal

abbrev pub invariant-operands : goal.invariant-operands
invariant-operands g l = record {
  idle : IsIdle l.self;
  found : Names g.S.Steps.events l.fn.self l.self (AreOperandsFound l.fn.self.output
      (map (λ name. name.now) (take l.name-index l.operands)));
}
