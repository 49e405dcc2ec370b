-- SPDX-License-Identifier: ISC
use Rattle.std.proofs.Common.{◌≡◌, ◌-◌, ◌≤◌, length}
use Rattle.ring.specs.Prelude.{AreOfKeys, IsRound, round_on}
use Rattle.ring.proofs.pbkdf2.rounds.rounds_from.Given as goal

-- so many rounds are counted, and this is the next
abbrev pub invariant-rounds : goal.invariant-rounds
invariant-rounds l =
    let a = l.derivation.algorithm in
    let n = l.derivation.len in
    record {
      places : AreOfKeys a n l.fn.first l.count (length l.derivation.keys.now);
      most : l.count ≤ 8;
      here : l.round ≡ round_on a n l.fn.first l.count;
      round : IsRound a n l.round;
    }

abbrev pub decreases-rounds : goal.decreases-rounds
decreases-rounds l = 8 - l.count
