-- SPDX-License-Identifier: ISC
use Rattle.ring.specs.Prelude.{RawStandsFor, StandsFor}
use Rattle.ring.proofs.lemmas.raw.Numbers.{taken_raw}
use Rattle.ring.proofs.raw.context.RawContext.context.Goals as goal

pub returns-clause-stands : goal.returns-clause-stands
unfolding StandsFor RawStandsFor
returns-clause-stands c = λ a m h.
    let own = c.in-Some.ensures in
    let is =
    taken_raw c.args.self.now a h.blocks own.algorithm own.numbers h.algorithm h.state h.count in
    (record { whole = h.blocks; taken = is.0; message = h.message }, is.1)
