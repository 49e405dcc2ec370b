-- SPDX-License-Identifier: ISC
use Rattle.std.proofs.Common.{◌≡◌, ◌+◌, ◌*◌, ◌%◌, ◌<◌, ◌≤◌, slice_index}
use Rattle.ring_core.specs.Prelude.{W, round}
use Rattle.ring_core.proofs.Schedule.{steps-four, sum-read}
use Rattle.ring_core.proofs.Sha2Steps.{rounds-next}
use Rattle.ring_core.proofs.digest.sha2.by_fours.four_rounds.Goals as goal

pub returns : goal.returns
returns g c = λ i h b n m ready place below near before.
    let at : (c.args.place ≡ m % 4) × (m < n) × (n ≤ m + 4) = (place, below, near) in
    let f = g.S.One.Sha2.family in
    let bits = g.met.S.One.Sha2.numbers.bits_are in
    let k = slice_index f.constants in
    let w = W f b in
    let words = g.S.FourWords.words in
    let sums = c.args.sums.now in
    steps-four (λ v t. round f v (k t) (w t)) (rounds-next f h b) m before
    (c.round-v.ensures i (k (4 * m)) (w (4 * m))
    (rw bits (sum-read words sums m 0 _ ready at (c.word.ensures i))))
    (c.round-v-2.ensures i (k (4 * m + 1)) (w (4 * m + 1))
    (rw bits (sum-read words sums m 1 _ ready at (c.word-2.ensures i))))
    (c.round-v-3.ensures i (k (4 * m + 2)) (w (4 * m + 2))
    (rw bits (sum-read words sums m 2 _ ready at (c.word-3.ensures i))))
    (c.round.ensures i (k (4 * m + 3)) (w (4 * m + 3))
    (rw bits (sum-read words sums m 3 _ ready at (c.word-4.ensures i))))
