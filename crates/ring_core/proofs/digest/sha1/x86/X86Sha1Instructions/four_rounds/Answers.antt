-- SPDX-License-Identifier: ISC
use Rattle.ring_core.proofs.Sha1Instructions.{four-steps, rnds4-first, rnds4-next, rnds4-variables}
use Rattle.ring_core.proofs.digest.sha1.x86.X86Sha1Instructions.four_rounds.Goals as goal

pub returns : goal.returns
returns c = λ h b n from to words before.
    let i = c.args.part in
    let abcd = c.args.v.0 in
    rw (c.rounds.ensures, c.sha1nexte.ensures, rnds4-variables i abcd _)
    (four-steps i h b n (c.requires, from, to) words before (λ t of. (
      rnds4-first i t _ _ of,
      rnds4-next i t _ _ of,
      rnds4-next i t _ _ of,
      rnds4-next i t _ _ of,
    )))
