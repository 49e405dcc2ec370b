-- SPDX-License-Identifier: ISC
use Rattle.ring_core.specs.Prelude.{family_256}
use Rattle.ring.proofs.lemmas.hmac.Paddings.{words_run}
use Rattle.ring.proofs.hmac.prepared as lanes
use lanes.OneLaneWrappingU32DigestsOf8DigestBlock.hash_digests.Goals as goal

pub returns-clause-ok : goal.returns-clause-ok
returns-clause-ok g c = λ i.
    let run = c.block_of_words_32_fastest_counted in
    rw (g.met.A.Suite.sha2.eight, g.met.A.Suite.sha2.function)
    (words_run family_256 c.args.states.now run.new.state c.args.digests.now
    c.padding.result.now c.padding.ensures (c.told-states, c.told-digests) run.ensures.words)
