-- SPDX-License-Identifier: ISC
use Rattle.std.proofs.Common.{length}
use Rattle.std.specs.Prelude.{◌↔◌}
use Rattle.ring_tokens.specs.Jws.{IsBase64url}
use Rattle.ring_tokens.proofs.decoded.is_base64url.Given as goal

-- the pieces that were tested are base64url
abbrev pub invariant-pieces : goal.invariant-pieces
invariant-pieces l = IsBase64url l.text ↔ IsBase64url l.rest

abbrev pub decreases-pieces : goal.decreases-pieces
decreases-pieces l = length l.rest
