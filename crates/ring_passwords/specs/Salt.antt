-- SPDX-License-Identifier: ISC
-- The salt of a new store or a new text.
use Rattle.std.specs.Prelude.{◌≡◌, ℕ, List, Option, length, true, false}
use Rattle.ring_passwords.specs.Event.{Event, Notes, Random}
use Rattle.ring_passwords.specs.Failure.{IsOfSystem}
use Rattle.ring_passwords.specs.declared.failure.Failure.{Failure}
use Rattle.ring_passwords.specs.declared.failure.Step.TheVariants as step

-- nothing is done but that the salt is drawn, 16 random bytes
pub record IsDrawn {F : Type 0} (old new : Option (List (Event F))) (salt : List ℕ) : Type 0 where
  pub len : length salt ≡ 16
  pub drawn : Notes old new (Random salt true)

-- the system refuses to draw a salt
pub record IsNotDrawn {F : Type 0} (old new : Option (List (Event F))) (failed : Failure)
    : Type 0 where
  pub bytes : List ℕ
  pub why : IsOfSystem step.Salt failed
  pub refused : Notes old new (Random bytes false)
