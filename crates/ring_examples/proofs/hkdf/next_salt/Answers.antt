-- SPDX-License-Identifier: ISC
use Rattle.std.proofs.Common.{arith, refl}
use Rattle.ring.specs.Prelude.{prk_algorithm}
use Rattle.ring.proofs.Rows.{output_len-positive}
use Rattle.ring_examples.proofs.hkdf.next_salt.Goals as goal

pub returns-clause-ok : goal.returns-clause-ok
returns-clause-ok c k stands =
    let asked = c.in_ok-expand.ensures in
    rw (asked.algorithm, asked.carries) at (c.try_from.ensures.ok k _ _ (asked.ok k stands))

-- 255 digests have more than 32 bytes
pub returns-in_err-expand-clause-refused : goal.returns-in_err-expand-clause-refused
returns-in_err-expand-clause-refused c =
    let some = output_len-positive (prk_algorithm c.args.current.now) in
    absurd (omega (arith, some, c.in_err-expand.ensures.refused.0 refl))
