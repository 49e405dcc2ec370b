-- SPDX-License-Identifier: ISC
use Rattle.std.proofs.Common.{arith, rules}
use Rattle.ring_c.proofs.Within.{each_within}
use Rattle.ring_c.proofs.each.digest_each.Goals as goal

pub returns-in-Ok : goal.returns-in-Ok
returns-in-Ok g c = record {
  ok = search rules;
  status = grind (arith, each_within);
  unchanged = search rules;
}

pub returns-in-Err : goal.returns-in-Err
returns-in-Err g c = record {
  ok = search rules;
  status = grind (arith, each_within);
  unchanged = search rules;
}
