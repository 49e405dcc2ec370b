-- SPDX-License-Identifier: ISC
use Rattle.std.proofs.Common.{◌^◌, pow_pos}
use Rattle.ring.proofs.lemmas.digest.Words.{map-below}
use Rattle.ring.proofs.lemmas.hmac.Paddings.{lane_run}
use Rattle.ring.proofs.hmac.prepared.InVectorDigestsOfDigestBlock.hash_digests.Goals as goal

pub returns-clause-ok : goal.returns-clause-ok
returns-clause-ok g c = λ i.
    let word = g.W.Word in
    let run = c.block_of_words_lanes_counted in
    let small = map-below word.value (2 ^ word.bits) c.padding.result.now (pow_pos word.bits)
    g.met.W.Word.fits in
    rw (g.met.A.Suite.sha2.eight, g.met.A.Suite.sha2.function)
    (lane_run g.W.Sha2.family c.args.states.now.words run.new.states.words
    c.args.digests.now.words c.padding.ensures small (run.ensures.eight i)
    (λ x. g.met.V.LaneWord.fits i x.0) (run.ensures.words i))
