-- SPDX-License-Identifier: ISC
use Rattle.std.proofs.Common.{arith}
use Rattle.ring_examples.proofs.laws.long_and_short_key.Goals as goal

pub returns-clause-front : goal.returns-clause-front
returns-clause-front c =
    rw (c.in_ok-derive-2.ensures.ok, c.in_ok-derive.ensures.ok)
    (c.shorter_derivation_is_a_front.ensures _ _ _ _ 32 64 (omega arith))
