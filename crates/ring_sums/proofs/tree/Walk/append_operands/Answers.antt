-- SPDX-License-Identifier: ISC
use Rattle.ring_sums.proofs.Operands.{operands-next, operands-none}
use Rattle.ring_sums.proofs.tree.Walk.append_operands.Goals as goal

pub operands-init : goal.operands-init
operands-init g c = record {
  idle = c.requires;
  found = operands-none c.args.self.now.output c.args.self.now;
}

pub operands-preserved : goal.operands-preserved
operands-preserved g c = record {
  idle = c.in_ok-append_operand.ensures.idle;
  found = operands-next c.args.operands.now c.operands.name-index _ c.operands-test.true
      c.operands.invariant.found c.in_ok-append_operand.ensures.ok;
}
