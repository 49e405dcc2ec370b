-- SPDX-License-Identifier: ISC
use Rattle.std.proofs.Common.{List, ap, map, subst, sym, ℕ, ◌∙◌}
use Rattle.std.proofs.lemmas.List.{map-append}
use Rattle.ring_sums.specs.List.{TextSays, is_passed_over, said_by}
use Rattle.ring_sums.proofs.Lists.{passed-line, read-line}
use Rattle.ring_sums.proofs.list.append_line.Goals as goal

pub returns-then-is_passed_over : goal.returns-then-is_passed_over
returns-then-is_passed_over c =
    passed-line (ap is_passed_over (sym c.without_return-line.ensures)
    ∙ sym c.is_passed_over.ensures ∙ c.if-is_passed_over.true)

pub returns : goal.returns
returns c =
    read-line (ap is_passed_over (sym c.without_return-line.ensures)
    ∙ sym c.is_passed_over.ensures ∙ c.if-is_passed_over.false)
    (subst (λ (t : List ℕ). TextSays c.args.asked c.args.is_standard_input c.args.number
    c.args.gap.now t (said_by c.in_ok-line_said.field-0) c.line_said.new.gap)
    c.without_return-line.ensures c.in_ok-line_said.ensures)
    (ap (map said_by) c.in_ok-push.ensures.items ∙ map-append said_by _ _)
