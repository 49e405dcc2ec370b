-- SPDX-License-Identifier: ISC
use Rattle.ring_tokens.proofs.Usual.{usual_valid}
use Rattle.ring_tokens.proofs.laws.signed_token_is_valid.Goals as goal

pub returns : goal.returns
returns c = λ a k p octets within. usual_valid a k p octets within
