-- SPDX-License-Identifier: ISC
use Rattle.std.proofs.Common.{◌+◌, arith}
use Rattle.ring_core.proofs.digest.sha1.window.next_two_rounds.Goals as goal

pub returns : goal.returns
returns g c = λ i h b before.
    let ready = c.extend.ensures i b before.words in record {
      words = ready;
      variables =
          c.two_rounds.ensures i h b (c.args.t + 2) ready (omega arith) (omega arith)
          before.variables;
    }
