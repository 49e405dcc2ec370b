-- SPDX-License-Identifier: ISC
use Rattle.std.proofs.Common.{arith, rules}
use Rattle.ring_core.specs.Sha1.{round}
use Rattle.ring_core.proofs.Mapped.{value_read}
use Rattle.ring_core.proofs.digest.sha1.round.round.Goals as goal

pub returns : goal.returns
unfolding round
returns g c = λ i w are.
    let v = value_read (g.S.LaneWord.lane i) c.args.v 5 (search rules) in
    grind (arith, v, are)
