-- SPDX-License-Identifier: ISC
use Rattle.std.proofs.Common.{refl}
use Rattle.hex.specs.Hex.{encode_lower}
use Rattle.ring_text.proofs.Cuts.{not_cut}
use Rattle.ring_store_text.proofs.Texts.{hex_cut}
use Rattle.ring_store_text.proofs.text.name_before.Goals as goal

pub returns-in_err-digits-clause-refused : goal.returns-in_err-digits-clause-refused
returns-in_err-digits-clause-refused c = λ _ name rest h is e.
    not_cut c.args.end (encode_lower name) rest c.args.text.now
    (c.in_err-digits.ensures.refused refl) e

pub returns-in_err-name_in-clause-refused : goal.returns-in_err-name_in-clause-refused
returns-in_err-name_in-clause-refused c = λ _ name rest h is e.
    let cut = hex_cut c.in_ok-digits.ensures.ok c.requires name rest h e in
    c.in_err-name_in.ensures.refused refl name h is cut.0
