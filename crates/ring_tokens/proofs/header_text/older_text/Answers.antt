-- SPDX-License-Identifier: ISC
use Rattle.std.proofs.Common.{ap, sym, ◌∙◌}
use Rattle.ring_tokens.specs.Header.{older_header}
use Rattle.ring_tokens.specs.Jws.{base64url}
use Rattle.ring_tokens.specs.declared.alg.Alg.{Alg}
use Rattle.ring_tokens.specs.declared.alg.Alg.TheVariants.{Hs256, Hs384, Hs512}
use Rattle.ring_tokens.proofs.Written.{older_text_is}
use Rattle.ring_tokens.proofs.header_text.older_text.Goals as goal

pub returns-in-Hs256 : goal.returns-in-Hs256
returns-in-Hs256 c =
    older_text_is Hs256 ∙ ap (λ (a : Alg). base64url (older_header a)) (sym c.in-Hs256.is)

pub returns-in-Hs384 : goal.returns-in-Hs384
returns-in-Hs384 c =
    older_text_is Hs384 ∙ ap (λ (a : Alg). base64url (older_header a)) (sym c.in-Hs384.is)

pub returns-in-Hs512 : goal.returns-in-Hs512
returns-in-Hs512 c =
    older_text_is Hs512 ∙ ap (λ (a : Alg). base64url (older_header a)) (sym c.in-Hs512.is)
