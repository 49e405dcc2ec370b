-- SPDX-License-Identifier: ISC
-- The line that `{}` prints of an error.
use Rattle.std.specs.Prelude.{ℕ, List, codes}
use Rattle.ring_password_hash.specs.declared.error.HashError.{HashError}
use Rattle.ring_password_hash.specs.declared.error.HashError.TheVariants as hash

abbrev pub hash_error_text : HashError → List ℕ
hash_error_text hash.BadFormat = codes "not a password hash"
hash_error_text hash.TooManyIterations = codes "too many iterations"
hash_error_text hash.WrongPassword = codes "wrong password"
hash_error_text hash.BadSalt = codes "the format cannot write this salt"
hash_error_text hash.NoRoom = codes "no room for the text"
hash_error_text hash.TooLong = codes "the password or the salt is too long"
