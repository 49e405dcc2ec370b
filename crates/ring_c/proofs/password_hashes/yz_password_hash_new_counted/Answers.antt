-- SPDX-License-Identifier: ISC
use Rattle.std.proofs.Common.{refl, rules}
use Rattle.ring_c.proofs.password_hashes.yz_password_hash_new_counted.Goals as goal

pub returns-in-Err-clause-plain : goal.returns-in-Err-clause-plain
returns-in-Err-clause-plain c = record {
  ok = search rules;
  status = search rules;
  unchanged = λ _. (refl, refl);
}
