-- SPDX-License-Identifier: ISC
use Rattle.std.proofs.Common.{arith}
use Rattle.std.proofs.lemmas.Grind.{common_steps}
use Rattle.ring.proofs.lemmas.pbkdf2.Rounds.{round_on-none}
use Rattle.ring.proofs.pbkdf2.rounds.rounds_from.Goals as goal

pub returns-else-round-derivation-clause-some : goal.returns-else-round-derivation-clause-some
returns-else-round-derivation-clause-some c =
    let d = c.args.derivation.now in
    grind (arith, common_steps, round_on-none d.algorithm d.len c.args.first)
