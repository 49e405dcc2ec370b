-- SPDX-License-Identifier: ISC
use Rattle.std.proofs.Common.{◌^◌, ◌<◌, length, arith, rules}
use Rattle.std.proofs.lemmas.Bool.Decides.{nat_tests}
use Rattle.ring_merkle.proofs.Begun.{length-proof}
use Rattle.ring_merkle.proofs.paths.consistency_len.Goals as goal

pub returns-clause-len : goal.returns-clause-len
returns-clause-len c =
    let fits : length c.args.leaves.now < 2 ^ 64 = search rules in
    let proof = length-proof c.args.first_size c.args.leaves.now c.requires.nonempty
    c.requires.within (omega arith) in
    grind (
      arith,
      nat_tests,
      proof,
      c.first_place.ensures.node,
      c.first_place.ensures.last,
      c.path_len-siblings.ensures.count,
    )
