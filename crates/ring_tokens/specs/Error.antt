-- SPDX-License-Identifier: ISC
-- Errors: the line that `{}` prints of each.
use Rattle.std.specs.Prelude.{ℕ, List, codes}
use Rattle.ring_tokens.specs.declared.error.TokenError.{TokenError}
use Rattle.ring_tokens.specs.declared.error.TokenError.TheVariants as token

abbrev pub token_error_text : TokenError → List ℕ
token_error_text token.Invalid = codes "not a valid token"
token_error_text token.NoRoom = codes "no room for the token"
token_error_text token.TooLong = codes "too long to be signed"
token_error_text token.Memory = codes "out of memory"
