-- SPDX-License-Identifier: ISC
use Rattle.std.proofs.Common.{ap, refl, sym, ◌∙◌}
use Rattle.ring_sums.specs.Entry.{behind_backslash, listed_in, neither, with_digits, with_tag}
use Rattle.ring_sums.proofs.entry.entry_of_line.Goals as goal

pub returns-in-Some : goal.returns-in-Some
unfolding listed_in
returns-in-Some c =
    let start = c.behind_backslash-is_escaped in (
      record {
        is_escaped = start.result.0;
        shape = with_tag c.in-Some.algorithm c.in-Some.name.now c.in-Some.digits.now;
      },
      record {
        text = start.result.1.now;
        start = ap behind_backslash (sym c.without_white.ensures) ∙ start.ensures;
        shape = c.in-Some.ensures;
      },
      c.entry_with.ensures,
      refl,
    )

pub returns-in-Some-plain_parts : goal.returns-in-Some-plain_parts
returns-in-Some-plain_parts c =
    let start = c.behind_backslash-is_escaped in
    let parts = c.in-Some-plain_parts in (
      record {
        is_escaped = start.result.0;
        shape = with_digits parts.algorithm parts.digits.now parts.rest.now;
      },
      record {
        text = start.result.1.now;
        start = ap behind_backslash (sym c.without_white.ensures) ∙ start.ensures;
        shape = parts.ensures;
      },
      c.plain_entry.ensures.entry,
      c.plain_entry.ensures.gap,
    )

pub returns-in-None : goal.returns-in-None
unfolding listed_in
returns-in-None c =
    let start = c.behind_backslash-is_escaped in
    let tagged = c.in_default.ensures in (
      record { is_escaped = start.result.0; shape = neither },
      record {
        text = start.result.1.now;
        start = ap behind_backslash (sym c.without_white.ensures) ∙ start.ensures;
        shape = (
          λ a name digits asked form. tagged (a, name, digits) (asked, form),
          λ a digits rest. c.in-None.ensures (a, digits, rest),
        );
      },
      refl,
      refl,
    )
