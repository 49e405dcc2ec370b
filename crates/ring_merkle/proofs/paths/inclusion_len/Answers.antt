-- SPDX-License-Identifier: ISC
use Rattle.std.proofs.Common.{◌^◌, ◌<◌, ◌∙◌, length, arith, rules, sym}
use Rattle.ring_merkle.proofs.Included.{length-path}
use Rattle.ring_merkle.proofs.paths.inclusion_len.Goals as goal

pub returns-clause-len : goal.returns-clause-len
returns-clause-len c =
    let fits : length c.args.leaves.now < 2 ^ 64 = search rules in
    c.path_len.ensures.count
    ∙ sym (length-path c.args.leaves.now c.args.index c.requires.within (omega arith))
