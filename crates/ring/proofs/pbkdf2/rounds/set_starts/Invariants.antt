-- SPDX-License-Identifier: ISC
use Rattle.std.proofs.Common.{◌≡◌}
use Rattle.ring.specs.Prelude.{AreStarts, IsRound, first_blocks, nth_round}
use Rattle.ring.proofs.lemmas.pbkdf2.Places.{HasRisen}
use Rattle.ring.proofs.pbkdf2.rounds.set_starts.Given as goal

-- the first i rounds start, and this is the next round
abbrev pub invariant-starts : goal.invariant-starts
invariant-starts l =
    let d = l.derivation in
    record {
      here : l.round ≡ nth_round d l.fn.first l.i;
      round : IsRound d.algorithm d.len l.round;
      starts : AreStarts d l.fn.first l.starts l.i;
      cost : HasRisen (first_blocks d l.fn.first) l.i l.fn.meter l.meter;
    }
