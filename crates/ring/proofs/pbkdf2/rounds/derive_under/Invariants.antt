-- SPDX-License-Identifier: ISC
use Rattle.std.proofs.Common.{◌≡◌, ◌-◌, ◌*◌, ℕ, List, length}
use Rattle.ring.specs.Prelude.{AreKeysOf, IsRound, KeepsPlaces, Receives, blocks_at, bytes_before}
use Rattle.ring.specs.Prelude.{len_before, raised, round_at}
use Rattle.ring.proofs.lemmas.pbkdf2.Rounds.{IsUpTo, blocks_before}
use Rattle.ring.proofs.pbkdf2.rounds.derive_under.Given as goal

-- the rounds before this one are taken
abbrev pub invariant-rounds : goal.invariant-rounds
invariant-rounds g l =
    let r = g.R.Receiver in
    let d = l.derivation in
    let a = d.algorithm in
    let keys = d.keys.now in
    record {
      round : IsRound a d.len l.round;
      up_to : IsUpTo (length keys) l.round;
      same : KeepsPlaces r.places r.room l.fn.receiver l.receiver;
      taken : (p : ℕ → List ℕ) → AreKeysOf a keys p
          → Receives r.HasReceived l.first (length keys)
          (bytes_before a d.len (round_at d p) l.round) l.fn.receiver l.receiver;
      cost : l.meter ≡ raised l.fn.meter (blocks_before a (blocks_at d) d.len l.round)
          (r.pairs * len_before d.len l.round);
    }

abbrev pub decreases-rounds : goal.decreases-rounds
decreases-rounds g l =
    length l.derivation.keys.now * l.derivation.len - len_before l.derivation.len l.round
