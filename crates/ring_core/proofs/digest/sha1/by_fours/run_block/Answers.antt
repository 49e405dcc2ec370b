-- SPDX-License-Identifier: ISC
use Rattle.std.proofs.Common.{[], ◌∷◌, ◌≡◌, ◌∙◌, map, refl, sym}
use Rattle.ring_core.specs.Prelude.{low_32, sixteen, word_at}
use Rattle.ring_core.proofs.FourWords.{low-lanes}
use Rattle.ring_core.proofs.Sha1FourWords.{sixteen-first, words-of-fours}
use Rattle.ring_core.proofs.digest.sha1.by_fours.run_block.Goals as goal

pub returns-clause-words : goal.returns-clause-words
returns-clause-words c = λ b e0 e1 e2 e3.
    let words = c.args.first ∷ c.args.second ∷ c.args.third ∷ c.args.fourth ∷ [] in
    let low : map (map low_32) words ≡ words =
    λ i. low-lanes c.args.first c.fits-first.1 i ∷ low-lanes c.args.second c.fits-second.1 i
    ∷ low-lanes c.args.third c.fits-third.1 i ∷ low-lanes c.args.fourth c.fits-fourth.1 i ∷ [] in
    let are : map (map low_32) words ≡ sixteen (word_at 32 b) 0 = rw (e0, e1, e2, e3) refl in
    let first = sym low ∙ are ∙ sixteen-first b in
    c.run_ahead.ensures.words b (words-of-fours b words are)
    (record { sixteen = first; ready = c.put_first_sums.ensures b first })
