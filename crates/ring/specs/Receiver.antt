-- SPDX-License-Identifier: ISC
-- What takes the bytes of derived keys.
use Rattle.std.specs.Prelude.{◌≡◌, ◌≢◌, ◌⊎◌, ℕ, ◌+◌, ◌^◌, ◌<◌, ◌≤◌, List, [], ◌++◌, length}

-- a place takes a part after the w bytes that it took before, and no other place takes any
pub record Takes {R : Type 0} (HasReceived : R → R → ℕ → List ℕ → Type 0) (place w : ℕ)
    (part : List ℕ) (old new : R) : Type 0 where
  pub here : (start : R) (front : List ℕ) → length front ≡ w
      → HasReceived start old place front → HasReceived start new place (front ++ part)
  pub others : (start : R) (j : ℕ) (front : List ℕ) → j ≢ place
      → HasReceived start old j front → HasReceived start new j front

-- of m places from the first one on, each takes its first bytes, and no other place takes any
pub record Receives {R : Type 0} (HasReceived : R → R → ℕ → List ℕ → Type 0) (first m : ℕ)
    (bytes : ℕ → List ℕ) (old new : R) : Type 0 where
  pub each : (start : R) (i : ℕ) → i < m → HasReceived start old (first + i) []
      → HasReceived start new (first + i) (bytes i)
  pub others : (start : R) (j : ℕ) (front : List ℕ) → (j < first) ⊎ (first + m ≤ j)
      → HasReceived start old j front → HasReceived start new j front

-- a receiver, by its places and the room at each, has m places, fewer than 2 ^ 64, with room for n
-- bytes; the room is below 2 ^ 63 bytes, as that of any slice
pub record HasPlaces {R : Type 0} (places room : R → ℕ) (m n : ℕ) (r : R) : Type 0 where
  pub few : m < 2 ^ 64
  pub count : m ≤ places r
  pub bytes : n ≤ room r
  pub most : room r < 2 ^ 63

-- it keeps both
pub record KeepsPlaces {R : Type 0} (places room : R → ℕ) (old new : R) : Type 0 where
  pub count : places new ≡ places old
  pub bytes : room new ≡ room old
