-- SPDX-License-Identifier: ISC
use Rattle.std.proofs.Common.{◌≡◌, ◌∙◌, ◌+◌, ◌*◌, ◌-◌, ℕ, arith, length, length-take, sym}
use Rattle.std.specs.Int.NonZero.{non_zero_u32_get}
use Rattle.ring.specs.Prelude.{Output, blocks_at, bytes_at, first_blocks, len_before}
use Rattle.ring.specs.Prelude.{nth_round}
use Rattle.ring.proofs.Sums.{raised-both, raised-sum, raised_zero, sum_below-one_more}
use Rattle.ring.proofs.lemmas.pbkdf2.Rounds.{blocks-first, blocks_before, derived-none}
use Rattle.ring.proofs.lemmas.pbkdf2.Rounds.{fewer_rounds, is_round-first, is_round-on, len-most}
use Rattle.ring.proofs.lemmas.pbkdf2.Rounds.{len-on, mul-sum, no_rounds, raised-on, round_on-none}
use Rattle.ring.proofs.lemmas.pbkdf2.Rounds.{taken-derived, taken-first, up_to-first, up_to-on}
use Rattle.ring.proofs.lemmas.pbkdf2.Starts.{fewer_starts}
use Rattle.ring.proofs.lemmas.pbkdf2.Taking.{keeps-more, places-kept}
use Rattle.ring.proofs.pbkdf2.rounds.derive_under.Goals as goal

pub returns-then-derivation-eq0-clause-ok : goal.returns-then-derivation-eq0-clause-ok
returns-then-derivation-eq0-clause-ok g c = λ p are.
    let d = c.args.derivation.now in
    rw c.if-derivation-eq0.true (derived-none d.algorithm p (bytes_at d.salts.now)
    (non_zero_u32_get d.iterations))

pub returns-then-derivation-eq0-clause-cost : goal.returns-then-derivation-eq0-clause-cost
returns-then-derivation-eq0-clause-cost g c =
    rw c.if-derivation-eq0.true
    (sym (raised_zero _ _ _ (no_rounds c.args.derivation.now.algorithm _) (grind arith)))

pub rounds-init : goal.rounds-init
rounds-init g c =
    record {
      round = is_round-first (omega (arith, c.if-derivation-eq0.false));
      up_to = up_to-first _;
      same = grind arith;
      taken = λ p are. taken-first _ _ _;
      cost = sym (raised_zero _ _ _ (blocks-first _ _ _) (grind arith));
    }

pub set_starts-requires-clause-rounds : goal.set_starts-requires-clause-rounds
set_starts-requires-clause-rounds g c =
    record {
      first = c.rounds.invariant.round;
      under = c.requires.under;
      places = fewer_rounds _ c.rounds_from-left.ensures.places (omega arith);
    }

pub write_rounds-requires-clause-starts : goal.write_rounds-requires-clause-starts
write_rounds-requires-clause-starts g c =
    fewer_starts _ c.set_starts.ensures.starts (omega (arith, length-take {A = Output}))

pub write_rounds-requires-clause-rounds : goal.write_rounds-requires-clause-rounds
write_rounds-requires-clause-rounds g c =
    record {
      first = c.rounds.invariant.round;
      under = c.requires.under;
      places = fewer_rounds _ c.rounds_from-left.ensures.places
          (omega (arith, length-take {A = Output}));
    }

pub hand_over-round-requires-clause-room : goal.hand_over-round-requires-clause-room
hand_over-round-requires-clause-room g c = λ i below.
    let place = c.rounds_from-left.ensures.places.each i
    (omega (arith, below, length-take {A = Output})) in
    places-kept c.rounds.invariant.same
    {k = c.args.first + (nth_round c.args.derivation.now c.rounds.round i).place + 1}
    c.requires.room (omega (arith, place)) (omega arith)

pub rounds-preserved : goal.rounds-preserved
rounds-preserved g c =
    let d = c.args.derivation.now in
    let h = c.rounds.invariant in
    let handed = c.hand_over-round.ensures in
    let t = c.lanes_for-lanes.result in
    let size : length c.write_rounds.new.outputs ≡ t = omega (arith, length-take {A = Output}) in
    let next = rw size at handed.next in
    let keys = length d.keys.now in
    let places = fewer_rounds t c.rounds_from-left.ensures.places (omega arith) in
    let blocks = blocks_at d in
    let had = len_before d.len c.rounds.round in
    let has = len_before d.len c.hand_over-round.result in
    let later = 1 + 2 * (non_zero_u32_get d.iterations - 1) in
    let written = raised-sum c.rounds.meter _ (t * later) c.set_starts.ensures.cost
    (rw (sym c.write_rounds.auto.outputs ∙ size) at c.write_rounds.ensures.cost)
    (sum_below-one_more (first_blocks d c.rounds.round)
    (2 * (non_zero_u32_get d.iterations - 1)) t) in
    let reached : ℕ = blocks_before d.algorithm blocks d.len (nth_round d c.rounds.round t) in
    let pairs = mul-sum g.R.Receiver.pairs had (has - had) has
    (rw next (omega (arith, len-on h.round t))) in
    record {
      round = rw next (is_round-on h.round t);
      up_to = rw next (up_to-on h.round h.up_to t places);
      same = keeps-more h.same handed.same;
      taken = λ p are. handed.ok c.args.receiver.now _ keys (c.write_rounds.ensures.ok p are)
          (h.taken p are);
      cost = raised-both _ reached _ 0 _
          (raised-on h.round blocks t _ _ h.cost written, handed.cost) (rw next (omega arith))
          pairs;
    }

pub rounds-smaller : goal.rounds-smaller
rounds-smaller g c =
    let h = c.rounds.invariant in
    let t = c.lanes_for-lanes.result in
    let size : length c.write_rounds.new.outputs ≡ t = omega (arith, length-take {A = Output}) in
    let next = rw size at c.hand_over-round.ensures.next in
    let d = c.args.derivation.now in
    let place = rw (round_on-none d.algorithm d.len c.rounds.round) at
    (c.rounds_from-left.ensures.places.each 0 c.rounds_from-left.ensures.some) in
    rw next (omega (arith, len-on h.round t, len-most h.round place))

pub returns-clause-ok : goal.returns-clause-ok
returns-clause-ok g c = λ p are.
    let h = c.rounds.invariant in
    taken-derived _ _ p (bytes_at c.args.derivation.now.salts.now) _ _ {y = c.rounds.receiver}
    (omega (arith, h.up_to.place)) (h.taken p are)
