-- SPDX-License-Identifier: ISC
-- What rounds start from, and what they give, in lanes.
use Rattle.std.proofs.Common.{◌≡◌, ℕ, ◌+◌, ◌<◌, ◌≤◌, ◌∙◌, [], ◌∷◌, List, ap, arith, get_or, inl}
use Rattle.std.proofs.Common.{inr, length}
use Rattle.std.proofs.lemmas.Bool.{cases_eq}
use Rattle.ring.specs.Prelude.{AreKeysOf, AreRounds, AreStarts, Derivation, HasStart, IsSet}
use Rattle.ring.specs.Prelude.{IsTagWithin, Key, KeyStandsFor, Round, Starts}
use Rattle.ring.specs.Prelude.{first_message, key_algorithm, nth_round}
use Rattle.ring.proofs.Each.{message-read}
use Rattle.ring.proofs.lemmas.pbkdf2.Places.{read_at}

-- a list that isn't empty has an item
pub some-item : {X : Type 0} (xs : List X) → 0 < length xs → X
some-item [] some = absurd (omega (arith, some))
some-item (x ∷ xs) some = x

-- the key of a round and its salt, as they are read
pub read-within : {d : Derivation} {m i : ℕ} {r q : Round} {key : Key} → AreRounds d r m → i < m
    → q ≡ nth_round d r i → key ≡ get_or d.keys.now q.place key
    → (q.place < length d.keys.now) × ((key_algorithm key ≡ d.algorithm)
    × IsTagWithin (key_algorithm key) (length (read_at d.salts.now q.place) + 4))
read-within {d} {q = q} {key} rounds below here is =
    let place = rw (← here) at (rounds.places.each _ below) in
    let same = ap key_algorithm is ∙ rounds.under.algorithm q.place key place in
    let some : 0 < d.len = omega (arith, rounds.first.within) in
    let within = rw (message-read d.salts.now q.place) at
    (rounds.under.within q.place some place) in
    (place, (same, rw same within))

-- in the lane i starts the round q, under a key of the password that p has at its place
pub record IsStartOf (d : Derivation) (starts : Starts) (q : Round) (p : ℕ → List ℕ) (i : ℕ)
    : Type 0 where
  pub key : Key
  pub start : HasStart d.algorithm starts i key (first_message d q)
  pub stands : KeyStandsFor key (p q.place)

module _ {d : Derivation} {r : Round} where
  -- one lane more
  pub starts-next : (i : ℕ) {old new : Starts} → AreStarts d r old i
      → ((k : ℕ) (key : Key) (m : List ℕ) → k < i → HasStart d.algorithm old k key m
      → HasStart d.algorithm new k key m)
      → ((key : Key) → HasStart d.algorithm new i
      (get_or d.keys.now (nth_round d r i).place key) (first_message d (nth_round d r i)))
      → AreStarts d r new (i + 1)
  starts-next i starts kept here =
      record {
        each = λ k below key. elim (cases_eq k i) [
          | inl e ↦ rw e (here key)
          | inr other ↦ kept k _ _ (omega (arith, below, other))
              (starts.each k (omega (arith, below, other)) key)
        ];
      }

  -- and fewer
  pub fewer_starts : {m : ℕ} {starts : Starts} (k : ℕ) → AreStarts d r starts m → k ≤ m
      → AreStarts d r starts k
  fewer_starts k starts most =
      record { each = λ i below. starts.each i (omega (arith, below, most)) }

  -- each lane is set
  pub set-at : {m : ℕ} {starts : Starts} → AreStarts d r starts m → AreRounds d r m → (i : ℕ)
      → i < m → IsSet d.algorithm starts i
  set-at starts rounds i below =
      let key = some-item d.keys.now (omega (arith, rounds.places.each i below)) in
      (starts.each i below key).set

  -- what its key stands for
  pub start-at : {m : ℕ} {starts : Starts} {p : ℕ → List ℕ} → AreStarts d r starts m
      → AreRounds d r m → AreKeysOf d.algorithm d.keys.now p → (i : ℕ) → i < m
      → IsStartOf d starts (nth_round d r i) p i
  start-at starts rounds are i below =
      let place = rounds.places.each i below in
      let key = some-item d.keys.now (omega (arith, place)) in
      record {
        key = get_or d.keys.now (nth_round d r i).place key;
        start = starts.each i below key;
        stands = (are.each (nth_round d r i).place key place).stands;
      }
