-- SPDX-License-Identifier: ISC
-- Words side by side, each the word of a lane.
use Rattle.std.specs.Prelude.{ℕ, ◌%◌, ◌^◌, ◌<◌, List, map, slice_index}
use Rattle.std.proofs.Common.{mod-lt, pow_pos}
use Rattle.ring_core.specs.declared.digest.states.States.{States}

-- the word of `bits` bits at a place of a vector
unfoldable pub lane : ℕ → ℕ → List ℕ → ℕ
lane bits i x = slice_index x i % 2 ^ bits

-- it has so many bits
pub lane-lt : (bits i : ℕ) (x : List ℕ) → lane bits i x < 2 ^ bits
unfolding lane
lane-lt bits i x = mod-lt (slice_index x i) (pow_pos bits)

-- the words of a state, each read from its vector
abbrev pub words_of_lane : {V : Type 0} → (V → ℕ) → States V → List ℕ
words_of_lane f states = map (λ x. f x.0) states.words
