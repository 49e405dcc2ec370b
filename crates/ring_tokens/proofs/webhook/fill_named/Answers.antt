-- SPDX-License-Identifier: ISC
use Rattle.std.proofs.Common.{sym, ◌∙◌}
use Rattle.std.proofs.lemmas.List.{append_cancel_left}
use Rattle.hex.specs.Hex.{encode_lower}
use Rattle.ring_tokens.proofs.webhook.fill_named.Goals as goal

pub returns-in-Some-clause-refused : goal.returns-in-Some-clause-refused
returns-in-Some-clause-refused c = λ bad bytes are len is.
    c.fill_from_hex.ensures.refused bad bytes are len
    (append_cancel_left c.args.name.now c.in-Some.digits.now (encode_lower bytes)
    (sym c.in-Some.ensures.ok ∙ is))
