-- SPDX-License-Identifier: ISC
use Rattle.std.proofs.Common.{ℕ, ◌*◌, List, map}
use Rattle.ring_core.specs.Prelude.{IsBefore, W, rounds_from}
use Rattle.ring_core.proofs.digest.sha2.window.run_block.Given as goal

abbrev pub invariant-later : goal.invariant-later
invariant-later g l =
    let f = g.S.One.Sha2.family in
    let lane = g.S.LaneWord.lane in
    (i : ℕ) (b : List ℕ) → let rounds = rounds_from f (map (lane i) l.state) b in
    g.B.BlockWords.is_block i l.block b
    → IsBefore (W f b) rounds (map (lane i) l.words) (map (lane i) l.variables) (16 * l.turn)
