-- SPDX-License-Identifier: ISC
use Rattle.std.proofs.Common.{◌∙◌, arith, codes, refl, sym}
use Rattle.ring_password_hash.specs.Text.{parameters_then}
use Rattle.ring_password_hash.proofs.Heads.{count_of, letter_apart, named_small, two_same}
use Rattle.ring_password_hash.proofs.text.named_parameters.Goals as goal

pub returns-in_err-len-clause-refused : goal.returns-in_err-len-clause-refused
unfolding parameters_then
returns-in_err-len-clause-refused c = λ _ k d n rest small is.
    let read = c.in-Some.ensures.ok in (
      λ e.
          let same = two_same read.1 read.2 small (named_small is) (codes "i=") (codes "l=")
          (sym read.0 ∙ e) in
          c.in_err-len.ensures.refused refl (omega (arith, same.1, is.least))
          (omega (arith, same.1, is.most)),
      λ e. letter_apart _ _ (sym read.0 ∙ e),
    )

pub returns-in-Some-clause-ok : goal.returns-in-Some-clause-ok
unfolding parameters_then
returns-in-Some-clause-ok c = λ k named.
    let read = c.in-Some.ensures.ok in
    let len = c.in_ok-len.ensures.ok in
    (rw len.0 read.0, read.1, record { named = named; least = len.1; most = len.2 })

pub returns-in_err-len-2-clause-refused : goal.returns-in_err-len-2-clause-refused
unfolding parameters_then
returns-in_err-len-2-clause-refused c = λ _ k d n rest small is. (
  c.in_default.ensures.refused refl d (count_of is) rest small (named_small is),
  c.in_err-len-2.ensures.refused refl (count_of is) d rest (named_small is) small,
)

pub returns-in_err-len-3-clause-refused : goal.returns-in_err-len-3-clause-refused
unfolding parameters_then
returns-in_err-len-3-clause-refused c = λ _ k d n rest small is.
    let read = c.in_ok-len-2.ensures.ok in (
      λ e. letter_apart _ _ (sym e ∙ read.0),
      λ e.
          let same = two_same read.1 read.2 (named_small is) small (codes "l=") (codes "i=")
          (sym read.0 ∙ e) in
          c.in_err-len-3.ensures.refused refl (omega (arith, same.0, is.least))
          (omega (arith, same.0, is.most)),
    )

pub returns-clause-ok : goal.returns-clause-ok
unfolding parameters_then
returns-clause-ok c = λ k named.
    let read = c.in_ok-len-2.ensures.ok in
    let len = c.in_ok-len-3.ensures.ok in
    (rw len.0 read.0, read.2, record { named = named; least = len.1; most = len.2 })
