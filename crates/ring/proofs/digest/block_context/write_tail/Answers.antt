-- SPDX-License-Identifier: ISC
use Rattle.std.proofs.Common.{◌+◌, ◌/◌, ◌*◌, length, refl}
use Rattle.ring.proofs.lemmas.digest.Tails.{tail_written}
use Rattle.ring.proofs.digest.block_context.write_tail.Goals as goal

pub returns-clause-bytes : goal.returns-clause-bytes
returns-clause-bytes c =
    let pending = c.args.pending.now in
    let block = c.block_len-block_len in
    let len = ((length pending + c.length_len.result) / block.result + 1) * block.result in
    rw (c.put_length.ensures, c.copy_from_slice.ensures.after, c.requires.zeros)
    (tail_written c.args.algorithm pending c.args.message_len len c.requires.partial
    (rw (c.length_len.ensures, block.ensures) refl))
