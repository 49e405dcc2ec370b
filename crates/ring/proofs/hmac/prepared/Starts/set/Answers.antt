-- SPDX-License-Identifier: ISC
use Rattle.std.proofs.lemmas.List.{get_or-set_other}
use Rattle.ring.proofs.hmac.prepared.Starts.set.Goals as goal

pub returns-clause-others : goal.returns-clause-others
returns-clause-others c = λ a j k m other h.
    record {
      set = record {
        inner = λ s. simp (get_or-set_other, other) (h.set.inner s);
        outer = λ s. simp (get_or-set_other, other) (h.set.outer s);
        digest = λ s. simp (get_or-set_other, other) (h.set.digest s);
      };
      keyed = λ s t p stands. simp (get_or-set_other, other) (h.keyed s t p stands);
      digest = λ s p stands. simp (get_or-set_other, other) (h.digest s p stands);
    }
