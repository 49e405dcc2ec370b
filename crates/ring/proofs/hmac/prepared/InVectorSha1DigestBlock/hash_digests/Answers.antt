-- SPDX-License-Identifier: ISC
use Rattle.ring.specs.declared.hmac.prepared.TheConstants.{SHA1_PADDING}
use Rattle.ring.proofs.lemmas.digest.Words.{padded-words}
use Rattle.ring.proofs.lemmas.hmac.Paddings.{sha1_padding, values-below}
use Rattle.ring.proofs.hmac.prepared.InVectorSha1DigestBlock.hash_digests.Goals as goal

pub returns-clause-ok : goal.returns-clause-ok
returns-clause-ok g c = λ i.
    let run = c.sha1_block_of_words_lanes_counted.ensures in
    run.words i _ (padded-words c.args.digests.now.words sha1_padding (values-below 32 SHA1_PADDING)
    (run.eight i) (λ x. g.met.V.LaneWord.fits i x.0))
