-- SPDX-License-Identifier: ISC
use Rattle.std.proofs.Common.{◌≡◌, ℕ, ◌*◌, ◌<◌, List, drop}
use Rattle.ring_core.specs.Prelude.{fold_chunks}
use Rattle.ring.specs.Prelude.{HasWords, block_function, message_at, raised, word_count}
use Rattle.ring.proofs.digest.lanes.blocks.run_lanes.Given as goal

-- the lanes have the states after the first blocks of the messages
abbrev pub invariant-blocks-2 : goal.invariant-blocks-2
invariant-blocks-2 g l =
    record {
      words : (i : ℕ) (h : List ℕ) → i < g.H.LaneStates.LANES
          → HasWords l.algorithm h (g.H.LaneStates.lane i l.fn.states)
          → HasWords l.algorithm (fold_chunks (block_function l.algorithm) g.row.N h
          (g.B.Blocks.bytes l.algorithm (message_at l.messages i)) l.index)
          (g.H.LaneStates.lane i l.states);
      spare : (i : ℕ) (h : List ℕ) → i < g.H.LaneStates.LANES
          → HasWords l.algorithm h (g.H.LaneStates.lane i l.fn.states)
          → drop (word_count l.algorithm) (g.H.LaneStates.lane i l.states)
          ≡ drop (word_count l.algorithm) (g.H.LaneStates.lane i l.fn.states);
      cost : l.meter ≡ raised l.fn.meter (g.H.LaneStates.LANES * l.index) 0;
    }
