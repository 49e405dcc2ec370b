-- SPDX-License-Identifier: ISC
use Rattle.std.proofs.Common.{◌≡◌, ℕ, ◌+◌, ◌*◌, List, [], ◌∷◌, map}
use Rattle.ring_core.specs.Prelude.{IsAhead, IsReady, W, ready_sum, rounds_from}
use Rattle.ring_core.proofs.digest.sha2.by_fours.run_ahead.Given as goal

abbrev pub invariant-ahead : goal.invariant-ahead
invariant-ahead g l =
    let f = g.S.One.Sha2.family in
    let lane = g.S.LaneWord.lane in
    let words = g.S.FourWords.words in
    (i : ℕ) (b : List ℕ) (n : ℕ)
    → IsReady (W f b) (ready_sum f b)
    (map words (l.fn.first ∷ l.fn.second ∷ l.fn.third ∷ l.fn.fourth ∷ [])) (map words l.fn.sums) 0
    → n + 4 ≡ 4 * l.turn
    → IsAhead (W f b) (ready_sum f b) (rounds_from f (map (lane i) l.state) b)
    (map words l.words) (map words l.sums) (map (lane i) l.variables) n
