-- SPDX-License-Identifier: ISC
use Rattle.std.proofs.Common.{◌∙◌, mod-lt, pow_pos}
use Rattle.std.proofs.lemmas.List.{length-map}
use Rattle.ring.specs.declared.hmac.prepared.TheConstants.{SHA1_PADDING}
use Rattle.ring.proofs.lemmas.digest.Words.{padded-words}
use Rattle.ring.proofs.lemmas.hmac.Paddings.{sha1_padding, values-below}
use Rattle.ring.proofs.hmac.prepared as lanes
use lanes.OneLaneWrappingU32Sha1DigestBlock.hash_digests.Goals as goal

pub returns-clause-ok : goal.returns-clause-ok
returns-clause-ok c = λ i.
    let digests = c.args.digests.now in
    let small = values-below 32 SHA1_PADDING in
    c.sha1_block_of_words_fastest_counted.ensures.words _ (padded-words digests sha1_padding small
    (length-map digests _ ∙ c.told-digests) (λ x. mod-lt _ (pow_pos 32)))
