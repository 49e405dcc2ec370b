-- SPDX-License-Identifier: ISC
use Rattle.std.proofs.Common.{refl, rules}
use Rattle.ring_c.proofs.otp.write.Goals as goal

pub returns : goal.returns
returns c = record {
  ok = λ a d n of_algorithm of_digits of_counter _.
      cc (
        c.write_password.ensures c.args.key.now c.in-Ok.ensures.ok,
        c.in-Ok.ensures.algorithm,
        c.in-Some.ensures,
        of_algorithm,
        c.in-Some-digits_of_number.ensures.ok,
        of_digits,
        c.in-Some-counter.is,
        of_counter,
      );
  status = search rules;
  unchanged = λ no. absurd (no refl);
}
