-- SPDX-License-Identifier: ISC
use Rattle.std.proofs.Common.{ap, map, refl}
use Rattle.ring_sums.proofs.Operands.{all-found}
use Rattle.ring_sums.proofs.tree.find.Goals as goal

pub returns : goal.returns
returns g c =
    all-found (map (λ name. name.now) c.args.operands.now) c.look_at_output.result
    c.in_ok-append_operands.ensures.ok c.look_at_output.ensures c.output_of-output.ensures
    (ap (map (λ name. name.items)) c.new.ensures.items) refl
