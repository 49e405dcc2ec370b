-- SPDX-License-Identifier: ISC
use Rattle.std.proofs.Common.{drop, ap, refl, sym, ◌∙◌}
use Rattle.ring_text.specs.Field.{count_then}
use Rattle.ring_store_text.specs.Text.{head_then, hex_then}
use Rattle.ring_store_text.proofs.Texts.{hex_then-injective}
use Rattle.ring_store_text.proofs.text.head_in.Goals as goal

pub returns-in_err-after-clause-refused : goal.returns-in_err-after-clause-refused
unfolding head_then
returns-in_err-after-clause-refused c = λ _ salt d rest h e.
    c.in_err-after.ensures.refused refl (hex_then salt 32 (count_then d 10 rest)) e

pub returns-in_err-iterations-clause-refused : goal.returns-in_err-iterations-clause-refused
unfolding head_then
returns-in_err-iterations-clause-refused c = λ _ salt d rest h e.
    let read = c.in_ok-rest.ensures.ok in
    let behind = sym read.0 ∙ ap (drop 13) (sym c.in_ok-after.ensures.ok ∙ e) in
    let same = hex_then-injective 32 refl read.1 h.salt_bytes behind in
    c.in_err-iterations.ensures.refused refl d rest h.iterations same.1
