-- SPDX-License-Identifier: ISC
use Rattle.ring_core.specs.Instructions.{intel_round}
use Rattle.ring_core.proofs.Sha2Instructions.{four-sums, intel-round, intel-two}
use Rattle.ring_core.proofs.digest.sha2.x86.X86Sha256Instructions.four_rounds.Goals as goal

pub returns : goal.returns
returns c = λ h b n sums before.
    let abef = c.args.v.0 in
    let cdgh = c.args.v.1 in
    let middle = c.sha256rnds2-middle.result in
    rw (
      c.sha256rnds2.ensures,
      intel-two middle abef _,
      c.sha256rnds2-middle.ensures,
      intel-two abef cdgh c.args.sums,
      sums,
    ) (four-sums intel_round intel-round h b n before)
