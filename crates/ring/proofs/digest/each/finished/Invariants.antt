-- SPDX-License-Identifier: ISC
use Rattle.std.proofs.Common.{◌≡◌, ◌-◌, IsTrue}
use Rattle.ring.specs.Prelude.{chaining_words, is_state_of, raised, words_at}
use Rattle.ring.proofs.digest.each.finished.Given as goal

abbrev pub invariant-rest : goal.invariant-rest
invariant-rest g l =
    record {
      sized : IsTrue (is_state_of l.algorithm l.state);
      words : chaining_words l.algorithm l.state ≡ words_at l.algorithm l.message l.index;
      cost : l.meter ≡ raised l.fn.meter (l.index - l.count) 0;
    }
