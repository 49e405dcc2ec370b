-- SPDX-License-Identifier: ISC
use Rattle.std.proofs.Common.{◌≡◌, ◌+◌, ◌-◌, ◌*◌, ◌≤◌, length, sym, ap, ◌∙◌, arith}
use Rattle.std.proofs.lemmas.Grind.{common_steps}
use Rattle.ring.specs.Prelude.{joined, key_algorithm, output_len, hkdf_t}
use Rattle.ring.proofs.lemmas.hkdf.Expanding.{cost_first, cost_next, first_round, next_round}
use Rattle.ring.proofs.lemmas.hkdf.Expanding.{round-lt, rounds_at, written-last, written-next}
use Rattle.ring.proofs.Pieces.{joined_blocks-none}
use Rattle.ring.proofs.hkdf.rounds.write_output.Goals as goal

pub loop-out-init : goal.loop-out-init
loop-out-init c =
    let a = key_algorithm c.args.key.now in
    let info = joined c.args.info.now in
    let round = c.round-tag.ensures in
    record {
      place = omega arith;
      few = omega arith;
      in_out = omega arith;
      needed = λ h. omega arith;
      algorithm = round.algorithm;
      next = λ k h. first_round a k info (round.ok k h).bytes;
      done = λ k h. sym (joined_blocks-none (hkdf_t a k info));
      cost = cost_first a _ (length info) _ round.cost;
    }

pub loop-out-preserved : goal.loop-out-preserved
loop-out-preserved c =
    let a = key_algorithm c.args.key.now in
    let info = joined c.args.info.now in
    let before = c.loop-out.invariant in
    let round = c.round-tag-in-loop-out.ensures in
    let tag = c.as_ref-in-loop-out.ensures in
    let end = c.loop-out.written + c.output_len-output_len.result in
    let len : c.output_len-output_len.result ≡ output_len a = cc in
    let place : end ≡ (c.loop-out.rounds + 1) * output_len a = omega (arith, len, before.place) in
    let few = round-lt (output_len a) _ end (length c.loop-out.out) place in
    record {
      place = place;
      few = few (omega arith) (omega arith);
      in_out = grind (arith, common_steps);
      needed = λ h. grind (arith, common_steps);
      algorithm = round.algorithm;
      next = λ k h.
          let previous = tag.bytes ∙ before.next k h in
          next_round a k info c.loop-out.rounds previous (round.ok k h).bytes;
      done = λ k h. written-next _ before h len c.as_ref.ensures.bytes c.write_at.ensures;
      cost = cost_next before (tag.len ∙ ap output_len before.algorithm) round.cost;
    }

pub returns-clause-ok : goal.returns-clause-ok
returns-clause-ok c k h =
    let a = key_algorithm c.args.key.now in
    let before = c.loop-out.invariant in
    let len : c.output_len-output_len.result ≡ output_len a = cc in
    let left = length c.loop-out.out - c.loop-out.written in
    let short : left ≤ output_len a = omega arith in
    let whole : length c.loop-out.out ≡ c.loop-out.written + left = omega (arith, before.in_out) in
    let last = written-last left before h (omega arith) whole short in
    rw (← c.loop-out.auto.out) (last c.as_ref-2.ensures.bytes c.write_at-2.ensures)

pub returns-clause-cost : goal.returns-clause-cost
returns-clause-cost c =
    let a = key_algorithm c.args.key.now in
    let i = length (joined c.args.info.now) in
    let before = c.loop-out.invariant in
    let len : c.output_len-output_len.result ≡ output_len a = cc in
    let number = c.loop-out.rounds in
    let left : length c.args.out.now - c.loop-out.written ≤ output_len a = omega arith in
    let at_end = rounds_at a number c.loop-out.written (length c.args.out.now) before.place
    (omega (arith, before.in_out)) left (λ some. omega (arith, before.needed some)) in
    rw at_end before.cost
