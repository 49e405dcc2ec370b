-- SPDX-License-Identifier: ISC
use Rattle.std.proofs.Common.{◌∙◌, sym}
use Rattle.ring_sums.proofs.Operands.{output-passed}
use Rattle.ring_sums.proofs.tree.Walk.append_found.Goals as goal

pub returns-in_default : goal.returns-in_default
returns-in_default g c = record {
  idle = c.requires;
  ok = output-passed c.args.self.now c.args.path.now c.args.found c.in_default.not-Directory
      (sym c.is_output.ensures ∙ c.if-is_output.true);
}
