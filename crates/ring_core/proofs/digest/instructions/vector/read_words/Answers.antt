-- SPDX-License-Identifier: ISC
use Rattle.std.proofs.Common.{◌≡◌, ◌+◌, ◌*◌, ◌-◌, arith}
use Rattle.std.proofs.Math.Facts.{Fits-lt-pow}
use Rattle.ring_core.proofs.ByteOrder.{words-read}
use Rattle.ring_core.proofs.digest.instructions.vector.read_words.Goals as goal

pub returns : goal.returns
returns c =
    let k = 16 * c.args.j in
    let n : k + 16 - k ≡ 16 = omega arith in
    rw n (words-read c.args.block.now c.args.j (omega arith)
    (λ i. Fits-lt-pow (c.type_inv.block i)))
