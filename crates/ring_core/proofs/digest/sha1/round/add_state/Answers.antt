-- SPDX-License-Identifier: ISC
use Rattle.std.proofs.Common.{ℕ, arith, rules}
use Rattle.std.proofs.lemmas.List.{get_or-take}
use Rattle.ring_core.proofs.Mapped.{last_three, value_read}
use Rattle.ring_core.proofs.digest.sha1.round.add_state.Goals as goal

pub returns-clause-words : goal.returns-clause-words
returns-clause-words g c = λ i.
    let f = g.S.LaneWord.lane i in
    grind (
      arith,
      value_read f c.args.state.now 8 (search rules),
      get_or-take {A = ℕ},
      value_read f c.args.v.now 5 (search rules),
    )

pub returns-clause-rest : goal.returns-clause-rest
returns-clause-rest g c = last_three c.args.state.now _ _ _ (search rules)
