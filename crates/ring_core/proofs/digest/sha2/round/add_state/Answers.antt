-- SPDX-License-Identifier: ISC
use Rattle.std.proofs.Common.{◌≡◌, arith, length, rules}
use Rattle.ring_core.proofs.Mapped.{value_read}
use Rattle.ring_core.proofs.digest.sha2.round.add_state.Goals as goal

pub returns : goal.returns
returns g c = λ i.
    let f = g.S.LaneWord.lane i in
    let chaining : length c.args.state.now ≡ 8 = search rules in
    let variables : length c.args.v.now ≡ 8 = search rules in
    grind (arith, value_read f c.args.state.now 8 chaining, value_read f c.args.v.now 8 variables)
