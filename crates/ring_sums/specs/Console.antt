-- SPDX-License-Identifier: ISC
-- What is written on standard output.
use Rattle.std.specs.Prelude.{◌≡◌, ℕ, IsNone, List, [], ◌∷◌, Option}
use Rattle.std.specs.Io.KnownBytes.{Appends}
use Rattle.ring_sums.specs.declared.console.Console.{Console}

-- nothing is written
pub record IsKept {R W : Type 0} (old new : Console R W) : Type 0 where
  pub out : new.out ≡ old.out
  pub failure : new.failure ≡ old.failure

-- these bytes are, unless a line could not be written
pub record HasWritten {R W : Type 0} (contents : W → Option (List ℕ)) (text : List ℕ)
    (old new : Console R W) : Type 0 where
  pub failure : IsNone new.failure → IsNone old.failure
  pub bytes : IsNone new.failure → Appends (contents old.out) (contents new.out) text

-- these lines are, one after another, each where no write before it has failed
unfoldable pub InTurn : {R W : Type 0} → (contents : W → Option (List ℕ))
    → (lines : List (List ℕ)) → (old new : Console R W) → Type 0
InTurn contents [] old new = IsKept old new
InTurn {R} {W} contents (line ∷ lines) old new =
    IsNone old.failure × (between : Console R W) × HasWritten contents line old between
    × InTurn contents lines between new

-- so they are: behind one that could not be written there is none
pub record AreWritten {R W : Type 0} (contents : W → Option (List ℕ)) (lines : List (List ℕ))
    (old new : Console R W) : Type 0 where
  pub is : InTurn contents lines old new
