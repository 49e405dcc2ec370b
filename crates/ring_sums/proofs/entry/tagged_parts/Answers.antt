-- SPDX-License-Identifier: ISC
use Rattle.std.proofs.Common.{refl, sym, ◌∙◌}
use Rattle.ring_sums.proofs.TaggedForm.{cut-at, equals-at, opened-at}
use Rattle.ring_sums.proofs.entry.tagged_parts.Goals as goal

pub returns-in_err-after : goal.returns-in_err-after
returns-in_err-after c = rw c.from_residual.ensures λ parts form.
    c.in_err-after.ensures.refused refl form.opened form.begins

pub returns-in_err-inner : goal.returns-in_err-inner
returns-in_err-inner c = rw c.from_residual-in_err-inner.ensures λ parts form.
    c.in_err-inner.ensures.refused refl form.inner
    (c.behind_space.ensures ∙ opened-at form _ c.in_ok-after.ensures.ok)

pub returns-in_err-name : goal.returns-in_err-name
returns-in_err-name c = rw c.from_residual-in_err-name.ensures λ parts form.
    c.in_err-name.ensures (parts.0, form.rest) (cut-at form _ c.in_ok-after.ensures.ok
    (sym c.behind_space.ensures ∙ c.in_ok-inner.ensures.ok))

pub returns-in_err-digits : goal.returns-in_err-digits
returns-in_err-digits c = rw c.from_residual-in_err-digits.ensures λ parts form.
    let same = equals-at form _ c.in_ok-after.ensures.ok
    (sym c.behind_space.ensures ∙ c.in_ok-inner.ensures.ok) c.in_ok-name.ensures in
    c.in_err-digits.ensures.refused refl form.behind (c.without_white.ensures ∙ same.1)

pub returns : goal.returns
returns c =
    record {
      opened = c.in_ok-after.field-0.now;
      inner = c.in_ok-inner.inner.now;
      rest = c.in_ok-name.rest.now;
      behind = c.in_ok-digits.digits.now;
      begins = c.in_ok-after.ensures.ok;
      opens = sym c.behind_space.ensures ∙ c.in_ok-inner.ensures.ok;
      cut = c.in_ok-name.ensures;
      equals = sym c.without_white.ensures ∙ c.in_ok-digits.ensures.ok;
      ends = c.without_white-2.ensures;
    }
