-- SPDX-License-Identifier: ISC
use Rattle.std.proofs.Common.{arith, ap, ◌∙◌}
use Rattle.std.proofs.lemmas.Grind.{common_steps}
use Rattle.ring_c.specs.Status.{status_from}
use Rattle.ring_c.proofs.Tested.{status_of_test}
use Rattle.ring_c.proofs.password_hashes.yz_password_hash_verify_counted.Goals as goal

pub returns-clause-status : goal.returns-clause-status
returns-clause-status c = λ _.
    let tested = c.verify_counted.ensures in
    let told = c.status_from.ensures ∙ ap status_from tested.holds.answer
    ∙ status_of_test tested.found c.args.password.now c.args.max_iterations in
    record {
      found = tested.found;
      reads = tested.reads;
      holds = grind (arith, common_steps, told);
    }
