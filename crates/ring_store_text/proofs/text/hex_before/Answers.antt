-- SPDX-License-Identifier: ISC
use Rattle.ring_store_text.proofs.Texts.{hex_cut}
use Rattle.ring_store_text.proofs.text.hex_before.Goals as goal

pub returns-then-not-fill_from_hex-clause-refused
    : goal.returns-then-not-fill_from_hex-clause-refused
returns-then-not-fill_from_hex-clause-refused c = λ _ bytes rest h len e.
    let cut = hex_cut c.in_ok-digits.ensures.ok c.requires bytes rest h e in
    c.fill_from_hex.ensures.refused (λ read. cc (read, c.if-not-fill_from_hex.true)) bytes h len
    cut.0
