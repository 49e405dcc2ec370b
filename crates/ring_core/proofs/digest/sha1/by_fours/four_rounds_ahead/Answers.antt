-- SPDX-License-Identifier: ISC
use Rattle.std.proofs.Common.{◌≡◌, ◌+◌, arith}
use Rattle.ring_core.proofs.digest.sha1.by_fours.four_rounds_ahead.Goals as goal

pub returns : goal.returns
returns c = λ h b g here words before.
    let after : g + 4 + 1 ≡ g + 1 + 4 = omega arith in record {
      ready = rw after at (c.put_sums.ensures b (g + 4) (omega arith) words before.ready);
      variables =
          c.four_rounds-v.ensures h b (g + 4) g here before.ready (omega arith) (omega arith)
          before.variables;
    }
