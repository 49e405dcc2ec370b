-- SPDX-License-Identifier: ISC
use Rattle.std.proofs.Common.{◌∙◌, refl, sym, true≢false}
use Rattle.ring_password_hash.specs.Text.{parameters_then}
use Rattle.ring_password_hash.proofs.Heads.{no_parameters}
use Rattle.ring_password_hash.proofs.text.parameters_in.Goals as goal

pub returns-in-Some-clause-ok : goal.returns-in-Some-clause-ok
unfolding parameters_then
returns-in-Some-clause-ok c =
    let row = c.row-row.ensures in
    let end = c.count_end-end.ensures.ok in
    let read = rw (c.count_mark.ensures, end, row.names_len, row.keeps_keys) at c.in-Some.ensures.ok
    in
    (read.0, read.1, row.kept_len)

pub returns-then-not-row-clause-refused : goal.returns-then-not-row-clause-refused
returns-then-not-row-clause-refused c = λ _.
    let row = c.row-row.ensures in
    let end = c.count_end-end.ensures.ok in
    let lone = rw (c.count_mark.ensures, end, row.names_len, row.keeps_keys) at
    c.in_default.ensures.refused in
    let none = sym row.names_len ∙ c.if-not-row.true in
    no_parameters (lone refl) (λ d n rest small is. absurd (true≢false (sym is.named ∙ none)))

pub returns-clause-refused : goal.returns-clause-refused
returns-clause-refused c = λ none.
    let row = c.row-row.ensures in
    let end = c.count_end-end.ensures.ok in
    let lone = rw (c.count_mark.ensures, end, row.names_len, row.keeps_keys) at
    c.in_default.ensures.refused in
    no_parameters (lone refl) (c.named_parameters.ensures.refused none c.args.scheme)
