-- SPDX-License-Identifier: ISC
use Rattle.std.proofs.Common.{◌*◌, arith, refl}
use Rattle.ring_core.specs.Instructions.{sha1_function}
use Rattle.ring_core.proofs.Sha1Instructions.{IsOf, constant-of, four-steps, sha1hash-round}
use Rattle.ring_core.proofs.Sha1Instructions.{sha1hash-variables}
use Rattle.ring_core.proofs.digest.sha1.arm.ArmSha1Instructions.four_rounds.Goals as goal

pub returns : goal.returns
returns c = λ h b n from to words before.
    let i = c.args.part in
    let abcd = c.args.v.0 in
    let is : IsOf i (20 * i) =
    record { below = c.requires; from = omega arith; to = omega arith } in
    rw (
      c.sha1h.ensures,
      c.rounds.ensures,
      sha1hash-variables (sha1_function i) abcd c.args.v.1 _,
      c.vector.ensures,
      words,
      c.round_constant-k.ensures,
      constant-of i (20 * i) is,
    ) (four-steps i h b n (c.requires, from, to) refl before (λ t of. (
      sha1hash-round i t _ _ of,
      sha1hash-round i t _ _ of,
      sha1hash-round i t _ _ of,
      sha1hash-round i t _ _ of,
    )))
