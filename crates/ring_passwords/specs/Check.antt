-- SPDX-License-Identifier: ISC
-- A password is tested against a text.
use Rattle.std.specs.Prelude.{◌≡◌, ℕ, ◌≤◌, false, true, List, Option, Some, IfSome}
use Rattle.std.specs.Prelude.{Result, IsErrOf, IsOk}
use Rattle.std.specs.Io.BufRead.{drop_through, first_piece}
use Rattle.std.specs.Int.NonZero.{non_zero_u32_get}
use Rattle.std.specs.declared.num.NonZeroU32.{NonZeroU32}
use Rattle.ring.specs.Cost.{Counts}
use Rattle.ring_password_hash.specs.Stored.{IsTextOf, Parts, is_of, meter_of}
use Rattle.ring_passwords.specs.Encode.{IsPrepared}
use Rattle.ring_passwords.specs.declared.failure.Failure.{Failure}
use Rattle.ring_passwords.specs.declared.failure.Failure.TheVariants.{NeedsPreparation}
use Rattle.ring_passwords.specs.declared.failure.Failure.TheVariants.{WrongPassword}

-- its iterations are at most these
abbrev pub IsWithin : Parts → NonZeroU32 → Type 0
IsWithin h most = non_zero_u32_get h.iterations ≤ non_zero_u32_get most

-- how the test of a password against a value ends, and how it raises a meter
pub record IsTest (h : Parts) (password : List ℕ) (most : NonZeroU32) (before after : Counts)
    (r : Result (Unit {0}) Failure) : Type 0 where
  pub ok : IsOk r → IsPrepared h.scheme password × (is_of h password ≡ true)
  pub wrong : IsErrOf r WrongPassword
      → IsPrepared h.scheme password × (is_of h password ≡ false)
  pub unprepared : IsErrOf r NeedsPreparation
      → ¬ (IsPrepared h.scheme password) × (after ≡ before)
  pub cost : IsPrepared h.scheme password
      → after ≡ meter_of (Some h) password (non_zero_u32_get most) before

-- the text is of a value of which P holds
pub record IsTextWhere (text : List ℕ) (P : Parts → Type 0) : Type 0 where
  pub value : Parts
  pub has : IsTextOf value text
  pub holds : P value

-- what remains has two lines: the text of a value within the limit, and a password, of which P
-- holds
abbrev pub HasTextAndPassword : Option (List ℕ) → NonZeroU32
    → (P : Parts → (password : List ℕ) → Type 0) → Type 0
HasTextAndPassword remaining most P = IfSome remaining (λ bytes. IsTextWhere (first_piece 10 bytes)
    (λ h. IsWithin h most × P h (first_piece 10 (drop_through 10 bytes))))
