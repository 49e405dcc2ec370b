-- SPDX-License-Identifier: ISC
use Rattle.std.proofs.Common.{◌≡◌, [], ◌∷◌, map}
use Rattle.ring_core.specs.Prelude.{W, sixteen}
use Rattle.ring_core.proofs.Sha2FourWords.{sixteen-loaded}
use Rattle.ring_core.proofs.digest.sha2.by_fours.run_block.Goals as goal

pub returns : goal.returns
returns g c = λ i b e0 e1 e2 e3.
    let f = g.S.One.Sha2.family in
    let words : map g.S.FourWords.words
    (c.args.first ∷ c.args.second ∷ c.args.third ∷ c.args.fourth ∷ []) ≡ sixteen (W f b) 0 =
    rw (e0, e1, e2, e3) (sixteen-loaded f g.S.One.Word.bits b g.met.S.One.Sha2.numbers.bits_are) in
    c.run_ahead.ensures i b (record { sixteen = words; ready = c.put_first_sums.ensures b words })
