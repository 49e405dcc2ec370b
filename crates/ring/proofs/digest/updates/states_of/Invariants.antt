-- SPDX-License-Identifier: ISC
use Rattle.std.proofs.Common.{◌≡◌, ℕ, ◌<◌, All, get_or, length}
use Rattle.ring.specs.Prelude.{Context, DynState, state_word_len, word_len, words}
use Rattle.ring.proofs.digest.updates.states_of.Given as goal

-- the states of the first i contexts are there
abbrev pub invariant-contexts : goal.invariant-contexts
invariant-contexts l =
    record {
      room : length l.states ≡ 8;
      state : (k : ℕ) (s : DynState) (c : Context) → k < l.i
          → get_or l.states k s ≡ (get_or l.contexts k c).block.state;
      eight : All (λ state. length (words state) ≡ 8) l.states;
      sized : All (λ state. state_word_len state ≡ word_len l.fn.algorithm) l.states;
    }
