-- SPDX-License-Identifier: ISC
use Rattle.std.proofs.Common.{◌≡◌, ◌++◌, ◌+◌, ◌-◌, ◌*◌, ℕ, List}
use Rattle.std.specs.Int.{bytes_high_first}
use Rattle.ring.specs.Prelude.{HasKey, digest_at, hmac_of, raised}
use Rattle.ring.proofs.lemmas.pbkdf2.Iterates.{IsMade}
use Rattle.ring.proofs.pbkdf2.rounds.xor_iterates.Given as goal

-- in each lane that began with U_1 so many iterates are made
abbrev pub invariant-iterates : goal.invariant-iterates
invariant-iterates g l =
    let a = g.H.DigestBlock.algorithm in
    let lane = g.H.LaneStates.lane in
    record {
      made : (k : ℕ) (p s : List ℕ) (i : ℕ) → HasKey a (lane k) l.keys p
          → digest_at a (lane k) l.initial.iterate ≡ hmac_of a p (s ++ bytes_high_first 4 i)
          → IsMade a p s i l._made (digest_at a (lane k) l.iterate) (digest_at a (lane k) l.sum);
      cost : l.meter ≡ raised l.fn.meter (g.H.LaneStates.LANES * (1 + 2 * (l._made - 1))) 0;
    }
