-- SPDX-License-Identifier: ISC
-- Which status a call returns: YZ_OK, or the first cause that holds, which is the least number.
use Rattle.std.specs.Prelude.{ℤ, pos, Bool, false, Option, Some, None, if◌then◌else◌, Result, Ok}
use Rattle.std.specs.Prelude.{Err}
use Rattle.ring_password_hash.specs.declared.error.HashError.{HashError}
use Rattle.ring_password_hash.specs.declared.error.HashError.TheVariants as hash

-- the statuses, named and numbered as in c/include/yezdopin.h
abbrev pub YZ_OK : ℤ
YZ_OK = pos 0

abbrev pub YZ_UNKNOWN_ALGORITHM : ℤ
YZ_UNKNOWN_ALGORITHM = pos 1

abbrev pub YZ_UNKNOWN_CONTEXT : ℤ
YZ_UNKNOWN_CONTEXT = pos 2

abbrev pub YZ_NO_ITERATIONS : ℤ
YZ_NO_ITERATIONS = pos 3

abbrev pub YZ_WRONG_LENGTH : ℤ
YZ_WRONG_LENGTH = pos 4

abbrev pub YZ_BAD_FORMAT : ℤ
YZ_BAD_FORMAT = pos 5

abbrev pub YZ_TOO_MANY_ITERATIONS : ℤ
YZ_TOO_MANY_ITERATIONS = pos 6

abbrev pub YZ_BAD_SALT : ℤ
YZ_BAD_SALT = pos 7

abbrev pub YZ_UNSPECIFIED : ℤ
YZ_UNSPECIFIED = pos 8

-- whether each cause of a refusal holds, past a number that names no algorithm and a text that is
-- no hash's
pub record Causes : Type 0 where
  pub unknown_context : Bool
  pub no_iterations : Bool
  pub wrong_length : Bool
  pub too_many_iterations : Bool
  pub bad_salt : Bool
  pub unspecified : Bool

-- none holds: a call names those that it can have
abbrev pub no_cause : Causes
no_cause =
    record {
      unknown_context = false;
      no_iterations = false;
      wrong_length = false;
      too_many_iterations = false;
      bad_salt = false;
      unspecified = false;
    }

-- the status by the causes
abbrev pub first_of : Causes → ℤ
first_of c =
    if c.unknown_context then YZ_UNKNOWN_CONTEXT
    else if c.no_iterations then YZ_NO_ITERATIONS
    else if c.wrong_length then YZ_WRONG_LENGTH
    else if c.too_many_iterations then YZ_TOO_MANY_ITERATIONS
    else if c.bad_salt then YZ_BAD_SALT
    else if c.unspecified then YZ_UNSPECIFIED
    else YZ_OK

-- the status by what a number or a text names, or `unknown` where it names nothing, and by the
-- causes under that
abbrev pub status_of : {A : Type 0} → (unknown : ℤ) → Option A → (A → Causes) → ℤ
status_of unknown None causes = unknown
status_of unknown (Some a) causes = first_of (causes a)

-- the status for why a call of a password hash is refused
abbrev pub status_of_error : HashError → ℤ
status_of_error hash.NoRoom = YZ_WRONG_LENGTH
status_of_error hash.BadFormat = YZ_BAD_FORMAT
status_of_error hash.TooManyIterations = YZ_TOO_MANY_ITERATIONS
status_of_error hash.BadSalt = YZ_BAD_SALT
status_of_error hash.WrongPassword = YZ_UNSPECIFIED
status_of_error hash.TooLong = YZ_UNSPECIFIED

-- the same where it may succeed
abbrev pub status_from : Result (Unit {0}) HashError → ℤ
status_from (Ok _) = YZ_OK
status_from (Err error) = status_of_error error
