-- SPDX-License-Identifier: ISC
-- The line that `{}` prints of an error.
use Rattle.std.specs.Prelude.{ℕ, List, codes}
use Rattle.ring_store.specs.declared.error.StoreError.{StoreError}
use Rattle.ring_store.specs.declared.error.StoreError.TheVariants as store
use Rattle.ring_store.specs.declared.error.TokenError.{TokenError}
use Rattle.ring_store.specs.declared.error.TokenError.TheVariants as token

abbrev pub store_error_text : StoreError → List ℕ
store_error_text store.BadName = codes "the name is empty or too long"
store_error_text store.TooLong = codes "the password is too long"
store_error_text store.WrongUsernameOrPassword = codes "wrong username or password"
store_error_text store.Memory = codes "out of memory"

abbrev pub token_error_text : TokenError → List ℕ
token_error_text token.TooLong = codes "the user or the salt is too long"
token_error_text token.BadToken = codes "wrong token"
token_error_text token.Expired = codes "the token has expired"
