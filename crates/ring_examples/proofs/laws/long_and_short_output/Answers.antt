-- SPDX-License-Identifier: ISC
use Rattle.std.proofs.Common.{rules, arith, refl, ℕ}
use Rattle.ring.specs.Prelude.{IsInfoWithin}
use Rattle.ring.specs.declared.digest.algorithm.Algorithm.{Algorithm}
use Rattle.ring_examples.proofs.laws.long_and_short_output.Goals as goal

pub returns-clause-long : goal.returns-clause-long
returns-clause-long c k stands =
    rw (
      c.in_ok-fill.ensures.ok k _ _ (c.in_ok-expand.ensures.ok k stands),
      c.in_ok-expand.ensures.algorithm,
    ) refl

pub returns-clause-front : goal.returns-clause-front
returns-clause-front c k stands =
    let long = c.in_ok-fill.ensures.ok k _ _ (c.in_ok-expand.ensures.ok k stands) in
    let short = c.in_ok-fill-2.ensures.ok k _ _ (c.in_ok-expand-2.ensures.ok k stands) in
    rw (short, long, c.in_ok-expand.ensures.algorithm, c.in_ok-expand-2.ensures.algorithm)
    (c.shorter_output_is_a_front.ensures _ k _ 32 64 (omega arith))

-- the rounds of 32 bytes are within the limit where those of 64 are
fewer : {a : Algorithm} {i : ℕ} → IsInfoWithin a i 64 → IsInfoWithin a i 32
fewer within = record {
  first_round = within.first_round;
  next_rounds = λ past. within.next_rounds (omega (arith, past));
}

pub returns-in_err-fill-2-clause-refused : goal.returns-in_err-fill-2-clause-refused
returns-in_err-fill-2-clause-refused c =
    let long = (c.in_ok-fill.ensures.refused.0 refl).within in
    let short = fewer
    (rw (c.in_ok-expand.ensures.algorithm, c.in_ok-expand.ensures.info_len) at long) in
    absurd (cc (c.in_err-fill-2.ensures.refused.1 (record {
      same_len = search rules;
      within = rw (c.in_ok-expand-2.ensures.algorithm, c.in_ok-expand-2.ensures.info_len) short;
    })))
