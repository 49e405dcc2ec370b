-- SPDX-License-Identifier: ISC
use Rattle.std.proofs.Common.{◌≡◌, ◌-◌, ◌*◌, ◌≤◌, ℕ, List}
use Rattle.ring.specs.Prelude.{AreOutputs, IsRound, KeepsPlaces, Receives, bytes_before, len_before}
use Rattle.ring.specs.Prelude.{raised, round_on}
use Rattle.ring.proofs.pbkdf2.rounds.hand_over.Given as goal

-- the rounds before this one are taken
abbrev pub invariant-rounds : goal.invariant-rounds
invariant-rounds g l =
    let r = g.R.Receiver in
    let a = l.derivation.algorithm in
    let n = l.derivation.len in
    record {
      here : l.round ≡ round_on a n l.fn.first l.i;
      round : IsRound a n l.round;
      more : len_before n l.fn.first ≤ len_before n l.round;
      same : KeepsPlaces r.places r.room l.fn.receiver l.receiver;
      taken : (start : _) (f : ℕ → ℕ → List ℕ) (m : ℕ)
          → AreOutputs a n f m l.fn.first l.outputs
          → Receives r.HasReceived l.place m (bytes_before a n f l.fn.first) start l.fn.receiver
          → Receives r.HasReceived l.place m (bytes_before a n f l.round) start l.receiver;
      cost : l.meter ≡ raised l.fn.meter 0
          (r.pairs * (len_before n l.round - len_before n l.fn.first));
    }
