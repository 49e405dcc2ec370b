-- SPDX-License-Identifier: ISC
use Rattle.std.proofs.Common.{◌≤◌, ◌≡◌, ◌-◌, arith, get_or, length, min, rules, sym, take}
use Rattle.std.proofs.lemmas.Grind.{common_steps}
use Rattle.std.proofs.lemmas.List.{length-take, take-take}
use Rattle.ring_core.proofs.Costs.{raised-raised}
use Rattle.ring.specs.Prelude.{len_before, output_len}
use Rattle.ring.proofs.lemmas.pbkdf2.DerivedKeys.{no_output}
use Rattle.ring.proofs.lemmas.pbkdf2.Rounds.{is_round-next, len-more, len-next, mul-sum}
use Rattle.ring.proofs.lemmas.pbkdf2.Rounds.{round_on-next, taken-next}
use Rattle.ring.proofs.lemmas.pbkdf2.Taking.{keeps-more, places-kept}
use Rattle.ring.proofs.pbkdf2.rounds.hand_over.Goals as goal

pub take-requires : goal.take-requires
take-requires g c =
    let h = c.rounds.invariant in
    let room = rw (← h.here) at (c.requires.room c.rounds.i (omega arith)) in
    let output = get_or c.args.outputs.now c.rounds.i no_output in
    let part = length-take c.min-part_len.result output.0 in
    places-kept h.same room (omega arith)
    (omega (arith, part, h.round.within, c.min-part_len.ensures))

pub rounds-preserved : goal.rounds-preserved
rounds-preserved g c =
    let d = c.args.derivation.now in
    let a = d.algorithm in
    let len = d.len in
    let h = c.rounds.invariant in
    let i = c.rounds.i in
    let output = get_or c.args.outputs.now i no_output in
    let k = c.min-part_len.result in
    let next = c.round_after-round.ensures in
    let wanted : k ≡ min (output_len a) (len - c.rounds.round.from) = omega arith in
    let size : length (take k output.0) ≡ k = search rules in
    let before = len_before len c.rounds.round - len_before len c.args.first in
    let after = len_before len c.round_after-round.result - len_before len c.args.first in
    record {
      here = grind (arith, common_steps, round_on-next a len c.args.first i);
      round = rw next (is_round-next h.round);
      more = rw next (omega (arith, h.more, len-more h.round));
      same = keeps-more h.same c.take.ensures.same;
      taken = λ start f m outputs first.
          let place = rw (← h.here) at (outputs.places.each i (omega arith)) in
          let made = rw (← h.here) at (outputs.each i no_output (omega arith)) in
          let fits : k ≤ output_len a = omega (arith, wanted) in
          rw next (taken-next (λ j. record { each = outputs.size j }) h.round place
          (h.taken start f m outputs first)
          (rw (← wanted, ← made) (sym (take-take k (output_len a) output.0 fits)))
          c.take.ensures.ok);
      cost = grind (
        arith,
        common_steps,
        len-next h.round,
        raised-raised,
        mul-sum g.R.Receiver.pairs before k after,
      );
    }
