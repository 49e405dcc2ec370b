-- SPDX-License-Identifier: ISC
use Rattle.std.proofs.Common.{◌≡◌, ◌+◌, ◌*◌, ◌/◌, ◌%◌, ◌<◌, ◌≤◌, map, arith}
use Rattle.ring_core.specs.Prelude.{low_32}
use Rattle.ring_core.specs.Sha1.{W, round}
use Rattle.ring_core.proofs.Schedule.{steps-four, sum-read}
use Rattle.ring_core.proofs.Sha1Steps.{rounds-next}
use Rattle.ring_core.proofs.digest.sha1.by_fours.four_rounds.Goals as goal

pub returns : goal.returns
returns c = λ h b n m here ready below near before.
    let w = W b in
    let sums = c.args.sums.now in
    let words = map low_32 in
    let at : (c.args.t / 4 % 4 ≡ m % 4) × (m < n) × (n ≤ m + 4) = (omega arith, below, near) in
    steps-four (λ v t. round v t (w t)) (rounds-next h b) m before
    (rw here at (c.round-v.ensures 0 (w (4 * m))
    (rw here (sum-read words sums m 0 _ ready at (c.word.ensures 0)))))
    (rw here at (c.round-v-2.ensures 0 (w (4 * m + 1))
    (rw here (sum-read words sums m 1 _ ready at (c.word-2.ensures 0)))))
    (rw here at (c.round-v-3.ensures 0 (w (4 * m + 2))
    (rw here (sum-read words sums m 2 _ ready at (c.word-3.ensures 0)))))
    (rw here at (c.round.ensures 0 (w (4 * m + 3))
    (rw here (sum-read words sums m 3 _ ready at (c.word-4.ensures 0)))))
