-- SPDX-License-Identifier: ISC
use Rattle.std.proofs.Common.{add-one, arith}
use Rattle.ring_core.proofs.Bytes.{xor_lists-step}
use Rattle.ring_core.proofs.bb.xor_assign_at_start.Goals as goal

pub pairs-preserved : goal.pairs-preserved
pairs-preserved c =
    rw add-one
    (xor_lists-step c.args.a.now c.args.b.now c.pairs.i (omega arith) (omega arith) c.pairs.a
    c.pairs.invariant)
