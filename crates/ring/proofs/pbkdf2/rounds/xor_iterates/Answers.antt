-- SPDX-License-Identifier: ISC
use Rattle.std.proofs.Common.{◌<◌, ◌≡◌, ◌∙◌, arith, get_or, subst, sym, take}
use Rattle.std.specs.Int.NonZero.{non_zero_u32_get}
use Rattle.ring.specs.Prelude.{HasStart, bytes_at, first_message, nth_round, output_len}
use Rattle.ring.specs.Prelude.{pbkdf2_t}
use Rattle.ring.proofs.Sums.{raised-sum, raised_zero}
use Rattle.ring.proofs.lemmas.pbkdf2.Iterates.{blocks-next, length-pbkdf2_t, made-first, made-next}
use Rattle.ring.proofs.lemmas.pbkdf2.Starts.{start-at, set-at}
use Rattle.ring.proofs.pbkdf2.rounds.xor_iterates.Goals as goal

pub new-keys-requires-clause-set : goal.new-keys-requires-clause-set
new-keys-requires-clause-set g c = λ i below.
    rw c.requires.same (set-at c.requires.starts c.requires.rounds i below)

pub first_tags-iterate-requires-clause-set : goal.first_tags-iterate-requires-clause-set
first_tags-iterate-requires-clause-set g c = λ i below.
    rw c.requires.same (set-at c.requires.starts c.requires.rounds i below)

pub iterates-init : goal.iterates-init
iterates-init g c =
    record {
      made = λ k p s i stands h. rw c.clone-sum.ensures (made-first h);
      cost = grind (arith, raised_zero);
    }

pub iterates-preserved : goal.iterates-preserved
iterates-preserved g c =
    let h = c.iterates.invariant in
    record {
      made = λ k p s i stands first.
          made-next (h.made k p s i stands first) (c.sign_digests.ensures.ok k p stands)
          (c.xor_assign.ensures k);
      cost = raised-sum _ _ _ h.cost c.sign_digests.ensures.cost
          (blocks-next g.H.LaneStates.LANES c.iterates._made c.iterates.auto._made);
    }

pub returns-clause-ok : goal.returns-clause-ok
returns-clause-ok g c = λ p are.
    let d = c.args.derivation.now in
    let last : c.iterates._made ≡ non_zero_u32_get d.iterations = omega arith in
    record {
      size = λ i j. length-pbkdf2_t _ _ _ _ _;
      places = rw (← c.requires.lanes, ← c.write.auto.outputs) at c.requires.rounds.places;
      each = λ i output below.
          let lane : i < g.H.LaneStates.LANES = omega (arith, below) in
          let q = nth_round d c.args.first i in
          let one = start-at c.requires.starts c.requires.rounds are i lane in
          let start = subst (λ a. HasStart a c.args.starts.now i one.key (first_message d q))
          (sym c.requires.same) one.start in
          let stands = c.new-keys.ensures i one.key _ _ lane start one.stands in
          let tag = c.first_tags-iterate.ensures.ok i one.key _ _ lane start one.stands stands in
          let sum = (c.iterates.invariant.made i _ _ q.index stands tag).sum in
          subst (λ a. take (output_len a) (get_or c.write.new.outputs i output).0
          ≡ pbkdf2_t a (p q.place) (bytes_at d.salts.now q.place) q.index
          (non_zero_u32_get d.iterations)) c.requires.same
          (c.write.ensures i output below ∙ rw last at sum);
    }

pub returns-clause-cost : goal.returns-clause-cost
returns-clause-cost g c =
    let last : c.iterates._made ≡ non_zero_u32_get c.args.derivation.now.iterations = omega arith in
    rw last at c.iterates.invariant.cost
