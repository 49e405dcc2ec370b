-- SPDX-License-Identifier: ISC
use Rattle.std.proofs.Common.{refl, rules}
use Rattle.ring_password_hash.proofs.Made.{new_made}
use Rattle.ring_password_hash.proofs.stored.Stored.new_counted.Goals as goal

pub returns : goal.returns
returns c =
    let row = c.row-row.ensures in
    new_made c.in_ok-keep.ensures (record {
      salt = search rules;
      salt_len = refl;
      kept = search rules;
      kept_len = row.kept_len;
      usual = c.usual_parameters.ensures;
    }) (search rules) (search rules) (search rules)
