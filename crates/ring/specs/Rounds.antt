-- SPDX-License-Identifier: ISC
-- The rounds of keys of one length: all of one key before those of the next.
use Rattle.std.specs.Prelude.{◌≡◌, ℕ, zero, suc, ◌+◌, ◌-◌, ◌*◌, ◌<◌, ◌≤◌, All, List, ◌++◌}
use Rattle.std.specs.Prelude.{if◌then◌else◌, length, min, nat_lt, take}
use Rattle.std.specs.Int.{bytes_high_first}
use Rattle.std.specs.Int.NonZero.{non_zero_u32_get}
use Rattle.std.specs.List.{HoldsAt}
use Rattle.ring.specs.Algorithm.{output_len}
use Rattle.ring.specs.Cost.{iterate_blocks, padded_blocks}
use Rattle.ring.specs.DeriveEach.{bytes_at}
use Rattle.ring.specs.Hmac.{key_algorithm}
use Rattle.ring.specs.Items.{EachItem}
use Rattle.ring.specs.Limits.{IsTagWithin, derive_rounds, max_dk_len}
use Rattle.ring.specs.Pbkdf2.{pbkdf2_t}
use Rattle.ring.specs.Pieces.{joined_blocks}
use Rattle.ring.specs.Prepared.{HasStart}
use Rattle.ring.specs.declared.digest.algorithm.Algorithm.{Algorithm}
use Rattle.ring.specs.declared.digest.dynstate.Output.{Output}
use Rattle.ring.specs.declared.hmac.prepared.Starts.{Starts}
use Rattle.ring.specs.declared.pbkdf2.rounds.Derivation.{Derivation}
use Rattle.ring.specs.declared.pbkdf2.rounds.Round.{Round}

-- a round of a key of n bytes: it begins within the key, where the rounds of lower indices end
pub record IsRound (a : Algorithm) (n : ℕ) (r : Round) : Type 0 where
  pub some : 0 < r.index
  pub begins : r.from + output_len a ≡ r.index * output_len a
  pub within : r.from < n

-- the round after r: the next of its key, or the first of the next one
unfoldable pub next_round : Algorithm → ℕ → Round → Round
next_round a n r =
    if nat_lt (r.from + output_len a) n
    then record { place = r.place; index = r.index + 1; from = r.from + output_len a }
    else record { place = r.place + 1; index = 1; from = 0 }

-- the k-th round after r
unfoldable pub round_on : Algorithm → ℕ → Round → ℕ → Round
round_on a n r zero = r
round_on a n r (suc k) = next_round a n (round_on a n r k)

-- the number of rounds before r at the place i
unfoldable pub rounds_before : Algorithm → ℕ → Round → ℕ → ℕ
rounds_before a n r i =
    if nat_lt i r.place then derive_rounds a n else if nat_lt r.place i then 0 else r.index - 1

-- of n bytes, those in the first k blocks of L bytes
abbrev pub front : (L n : ℕ) → (ℕ → List ℕ) → ℕ → List ℕ
front L n f k = take (min n (k * L)) (joined_blocks f k)

-- what the key at the place i has of the rounds before r, where f i j is its round j
abbrev pub bytes_before : Algorithm → ℕ → (ℕ → ℕ → List ℕ) → Round → ℕ → List ℕ
bytes_before a n f r i = front (output_len a) n (f i) (rounds_before a n r i)

-- the bytes of the rounds before r
abbrev pub len_before : ℕ → Round → ℕ
len_before n r = r.place * n + r.from

-- a derivation can be run: HMAC's keys are of its algorithm, each has a salt, and the lengths are
-- within the limits
pub record CanDeriveUnder (d : Derivation) : Type 0 where
  pub algorithm : All (λ key. key_algorithm key ≡ d.algorithm) d.keys.now
  pub count : length d.salts.now ≡ length d.keys.now
  pub within : (i : ℕ) → 0 < d.len → i < length d.keys.now
      → IsTagWithin d.algorithm (length (bytes_at d.salts.now i) + 4)
  pub numbers : d.len ≤ max_dk_len d.algorithm

-- the first m rounds from r on are those of the first k keys, of n bytes each
pub record AreOfKeys (a : Algorithm) (n : ℕ) (r : Round) (m k : ℕ) : Type 0 where
  pub each : (i : ℕ) → i < m → (round_on a n r i).place < k

-- the first m rounds from r on can be run
pub record AreRounds (d : Derivation) (r : Round) (m : ℕ) : Type 0 where
  pub first : IsRound d.algorithm d.len r
  pub under : CanDeriveUnder d
  pub places : AreOfKeys d.algorithm d.len r m (length d.keys.now)

-- the k-th round after r, of a derivation's keys
abbrev pub nth_round : Derivation → Round → ℕ → Round
nth_round d r k = round_on d.algorithm d.len r k

-- the message whose tag is U_1 of a round: the salt and the round's index
abbrev pub first_message : Derivation → Round → List ℕ
first_message d r = bytes_at d.salts.now r.place ++ bytes_high_first 4 r.index

-- the first m rounds from r on start, each in its lane
pub record AreStarts (d : Derivation) (r : Round) (starts : Starts) (m : ℕ) : Type 0 where
  pub each : (i : ℕ) → i < m → HoldsAt (λ key. HasStart d.algorithm starts i key
      (first_message d (nth_round d r i))) d.keys.now (nth_round d r i).place

-- T_j of the key at the place i, of the password p i
abbrev pub round_at : Derivation → (ℕ → List ℕ) → (i j : ℕ) → List ℕ
round_at d p i j =
    pbkdf2_t d.algorithm (p i) (bytes_at d.salts.now i) j (non_zero_u32_get d.iterations)

-- the output begins with the k-th round after r, where f i j is T_j of the key at the place i
abbrev pub IsOutput : Algorithm → ℕ → (ℕ → ℕ → List ℕ) → Round → ℕ → Output → Type 0
IsOutput a n f r k output =
    take (output_len a) output.0 ≡ f (round_on a n r k).place (round_on a n r k).index

-- the outputs begin with the rounds from r on, which are those of the first m keys
pub record AreOutputs (a : Algorithm) (n : ℕ) (f : ℕ → ℕ → List ℕ) (m : ℕ) (r : Round)
    (outputs : List Output) : Type 0 where
  pub size : (i j : ℕ) → length (f i (suc j)) ≡ output_len a
  pub places : AreOfKeys a n r (length outputs) m
  pub each : EachItem outputs (IsOutput a n f r)

-- the blocks of the inner digest of U_1, in the k-th round after r
abbrev pub first_blocks : Derivation → Round → ℕ → ℕ
first_blocks d r k =
    padded_blocks d.algorithm (length (bytes_at d.salts.now (nth_round d r k).place) + 4)

-- the blocks of all iterates of a round of the key at the place i
abbrev pub blocks_at : Derivation → ℕ → ℕ
blocks_at d i =
    iterate_blocks d.algorithm (length (bytes_at d.salts.now i)) (non_zero_u32_get d.iterations)
