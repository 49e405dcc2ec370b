-- SPDX-License-Identifier: ISC
-- The status for a test of a password.
use Rattle.std.proofs.Common.{◌≡◌, ℕ, List, Bool, true, false, refl}
use Rattle.std.specs.Prelude.{Option, Some, None, Err, Ok, if◌then◌else◌, nat_lt, not}
use Rattle.std.specs.Int.NonZero.{non_zero_u32_get}
use Rattle.ring_password_hash.specs.Stored.{Parts, answer_of, is_of}
use Rattle.ring_password_hash.specs.declared.error.HashError.TheVariants as hash
use Rattle.ring_c.specs.PasswordHashes.{test_causes}
use Rattle.ring_c.specs.Status.{YZ_BAD_FORMAT, first_of, no_cause, status_from, status_of}

cases : (late right : Bool)
    → status_from (if late then Err hash.TooManyIterations
    else if right then Ok tt
    else Err hash.WrongPassword)
    ≡ first_of (record no_cause { too_many_iterations = late; unspecified = not right })
cases true right = refl
cases false true = refl
cases false false = refl

-- it is that of the answer
pub status_of_test : (found : Option Parts) (p : List ℕ) (most : ℕ)
    → status_from (answer_of found p most) ≡ status_of YZ_BAD_FORMAT found (test_causes p most)
status_of_test None p most = refl
status_of_test (Some h) p most =
    cases (nat_lt most (non_zero_u32_get h.iterations)) (is_of h p)
