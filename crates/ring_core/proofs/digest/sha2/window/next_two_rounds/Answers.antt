-- SPDX-License-Identifier: ISC
use Rattle.std.proofs.Common.{◌+◌, arith}
use Rattle.ring_core.proofs.digest.sha2.window.next_two_rounds.Goals as goal

pub returns : goal.returns
returns g c = λ i h b t at before.
    let ready = c.extend.ensures i b t (omega arith) (omega arith) before.words in record {
      words = ready;
      variables =
          c.two_rounds.ensures i h b (t + 2) t ready at (omega arith) (omega arith)
          before.variables;
    }
