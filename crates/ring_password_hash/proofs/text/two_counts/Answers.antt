-- SPDX-License-Identifier: ISC
use Rattle.std.proofs.Common.{◌++◌, ◌∙◌, refl, sym}
use Rattle.std.proofs.lemmas.List.{append_cancel_left}
use Rattle.ring_text.proofs.Numbers.{count_same}
use Rattle.ring_password_hash.specs.Text.{count_then}
use Rattle.ring_password_hash.proofs.Texts.{not_comma}
use Rattle.ring_password_hash.proofs.text.two_counts.Goals as goal

pub returns-in_err-one-clause-refused : goal.returns-in_err-one-clause-refused
returns-in_err-one-clause-refused c = λ _ d d' rest small small' e.
    c.in_err-one.ensures.refused refl d (c.args.second.now ++ count_then d' 36 rest)
    small (append_cancel_left c.args.first.now _ _ (sym c.in_ok-rest.ensures.ok ∙ e))

pub returns-in_err-other-clause-refused : goal.returns-in_err-other-clause-refused
returns-in_err-other-clause-refused c = λ _ d d' rest small small' e.
    let behind = append_cancel_left c.args.first.now _ _ (sym c.in_ok-rest.ensures.ok ∙ e) in
    let read = c.in_ok-one.ensures.ok in
    let same = count_same not_comma not_comma c.in_ok-one.one d read.1 small
    (sym read.0 ∙ behind) in
    c.in_err-other.ensures.refused refl d' rest small' same.2
