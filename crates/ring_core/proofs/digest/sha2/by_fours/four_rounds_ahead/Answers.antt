-- SPDX-License-Identifier: ISC
use Rattle.std.proofs.Common.{◌≡◌, ◌+◌, ◌*◌, ◌%◌, ◌<◌, ◌≤◌, slice_index, arith, refl}
use Rattle.std.proofs.Math.Nat.{add_assoc}
use Rattle.ring_core.specs.Prelude.{W, four, round}
use Rattle.ring_core.proofs.FourWords.{in_sixteen}
use Rattle.ring_core.proofs.Schedule.{steps-four, sum-read}
use Rattle.ring_core.proofs.Sha2FourWords.{W-next_four}
use Rattle.ring_core.proofs.Sha2Steps.{rounds-next}
use Rattle.ring_core.proofs.digest.sha2.by_fours.four_rounds_ahead.Goals as goal

pub returns : goal.returns
returns g c = λ i h b n here before.
    let f = g.S.One.Sha2.family in
    let bits = g.met.S.One.Sha2.numbers.bits_are in
    let k = slice_index f.constants in
    let w = W f b in
    let words = g.S.FourWords.words in
    let sums = c.args.sums.now in
    let ready = before.schedule.ready in
    let held = in_sixteen w words n c.args.words before.schedule.sixteen in
    let first = held 0 c.index-words-0.result (omega arith) in
    let second = held 1 c.index-words-1.result (omega arith) in
    let third = held 2 c.index-words-2.result (omega arith) in
    let fourth = held 3 c.index-words-3.result (omega arith) in
    let next : words c.with_last_two-next.result ≡ four w (n + 4) =
    rw (
      c.with_last_two-next.ensures,
      c.with_first_two-half.ensures,
      c.older-older.ensures,
      first,
      second,
      third,
      fourth,
    ) (W-next_four f b n) in
    let after : n + 4 + 1 ≡ n + 1 + 4 = omega arith in
    let at : (c.args.place ≡ n % 4) × (n < n + 4) × (n + 4 ≤ n + 4) =
    (omega arith, omega arith, omega arith) in
    record {
      schedule = record {
        sixteen = simp add_assoc (rw (second, third, fourth, next) refl);
        ready = rw after at (c.put_sums.ensures b (n + 4) here next ready);
      };
      variables =
          steps-four (λ v t. round f v (k t) (w t)) (rounds-next f h b) n before.variables
          (c.round-v.ensures i (k (4 * n)) (w (4 * n))
          (rw bits (sum-read words sums n 0 _ ready at (c.word.ensures i))))
          (c.round-v-2.ensures i (k (4 * n + 1)) (w (4 * n + 1))
          (rw bits (sum-read words sums n 1 _ ready at (c.word-2.ensures i))))
          (c.round-v-3.ensures i (k (4 * n + 2)) (w (4 * n + 2))
          (rw bits (sum-read words sums n 2 _ ready at (c.word-3.ensures i))))
          (c.round-v-4.ensures i (k (4 * n + 3)) (w (4 * n + 3))
          (rw bits (sum-read words sums n 3 _ ready at (c.word-4.ensures i))));
    }
