-- SPDX-License-Identifier: ISC
use Rattle.std.proofs.Common.{arith, refl, sym, ◌∙◌}
use Rattle.ring_text.proofs.Numbers.{count_then-injective}
use Rattle.ring_store_text.specs.Text.{record_then}
use Rattle.ring_store_text.proofs.Texts.{hex_then-injective}
use Rattle.ring_store_text.proofs.text.record_in.Goals as goal

pub returns-in_err-iterations-clause-refused : goal.returns-in_err-iterations-clause-refused
unfolding record_then
returns-in_err-iterations-clause-refused c = λ _ e rest h same.
    let read = c.in_ok-name.ensures.ok in
    let name = hex_then-injective 32 refl read.1 h.name_bytes (sym read.0 ∙ same) in
    c.in_err-iterations.ensures.refused refl e.1.iterations _ h.iterations name.1

pub returns-in_err-rest-clause-refused : goal.returns-in_err-rest-clause-refused
unfolding record_then
returns-in_err-rest-clause-refused c = λ _ e rest h same.
    let read = c.in_ok-name.ensures.ok in
    let name = hex_then-injective 32 refl read.1 h.name_bytes (sym read.0 ∙ same) in
    let counted = c.in_ok-iterations.ensures.ok in
    let count = count_then-injective 32 (λ d. omega arith) c.in_ok-iterations.iterations
    e.1.iterations counted.1 h.iterations (sym counted.0 ∙ name.1) in
    c.in_err-rest.ensures.refused refl e.1.credential rest h.credential_bytes h.credential count.1
