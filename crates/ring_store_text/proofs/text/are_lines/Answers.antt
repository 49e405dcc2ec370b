-- SPDX-License-Identifier: ISC
use Rattle.std.proofs.Common.{ℕ, List, length, take, sym, ap, subst, ◌∙◌}
use Rattle.std.proofs.Common.{arith, length-append}
use Rattle.std.specs.Prelude.{◌↔◌, []}
use Rattle.std.specs.Ordering.{is_lt}
use Rattle.std.proofs.Math.Seq.{take-append_seam}
use Rattle.ring_store_text.specs.Text.{AreLines}
use Rattle.ring_store.specs.declared.credential.Record.{Record}
use Rattle.ring_store_text.proofs.Entries.{lower}
use Rattle.ring_store_text.proofs.Lines.{first_line, more_lines}
use Rattle.ring_store_text.proofs.text.are_lines.Goals as goal

pub returns-then-not-is_lt : goal.returns-then-not-is_lt
returns-then-not-is_lt c =
    let line = c.in-Some.ensures.ok in (
      λ told. cc told,
      λ are.
          let first = first_line (c.loop-rest.invariant.read.0 are)
          (c.in-Some.name.now, c.in-Some.field-0-1) line.0 line.1 in
          let told = c.is_lt.ensures ∙ ap is_lt (c.cmp.ensures ∙ first.lower) in
          cc (told, c.if-not-is_lt.true),
    )

pub loop-rest-preserved : goal.loop-rest-preserved
loop-rest-preserved c =
    let e : List ℕ × Record = (c.in-Some.name.now, c.in-Some.field-0-1) in
    let line = c.in-Some.ensures.ok in
    let less = lower _ (ap is_lt (sym c.cmp.ensures) ∙ sym c.is_lt.ensures
    ∙ c.if-not-is_lt.false) in
    let last = take c.loop-rest.last_len c.loop-rest.last in
    let read : AreLines last c.loop-rest.rest.now ↔ AreLines e.0 c.in-Some.behind.now = (
      λ are. (first_line are e line.0 line.1).left,
      λ are. subst (AreLines last) (sym line.0) (more_lines e line.1 less are),
    ) in
    let long = ap length c.write_at.ensures ∙ length-append e.0 _ in
    let written = ap (take (length e.0)) c.write_at.ensures ∙ take-append_seam e.0 _ in
    record {
      short = omega (arith, long);
      read = subst (λ l. AreLines [] c.args.lines.now ↔ AreLines l c.in-Some.behind.now)
          (sym written) (
            λ are. read.0 (c.loop-rest.invariant.read.0 are),
            λ are. c.loop-rest.invariant.read.1 (read.1 are),
          );
    }
