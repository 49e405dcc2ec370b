-- SPDX-License-Identifier: ISC
use Rattle.std.proofs.Common.{sym, ◌∙◌}
use Rattle.std.proofs.lemmas.List.{map-append}
use Rattle.ring_sums.proofs.CheckedLines.{entries-bad, entries-entry}
use Rattle.ring_sums.proofs.check.files_of.Goals as goal
use Rattle.ring_sums.proofs.check.files_of.Goals.{in-Bad, in-Entry+in_ok-push-in-Entry}

pub loop-line-preserved : goal.loop-line-preserved
loop-line-preserved g c =
    let so = c.loop-line.invariant in
    let lines = c.args.lines.now in
    let n = c.loop-line.line-index in
    elim c.match-line.branch [
      | in-Entry+in_ok-push-in-Entry w ↦
          rw (
            w.wanted-is,
            w.in_ok-push-in-Entry.ensures.items,
            entries-entry lines n c.line-item.result c.loop-line-test.true w.in-Entry.entry
                (sym c.line-item.is ∙ w.in-Entry.is),
          ) (record {
            files = simp (map-append, so.files, w.wanted_of.ensures.algorithm);
            names = simp (map-append, so.names, w.wanted_of.ensures.name, w.deref.ensures.value);
          })
      | in-Bad w ↦
          rw (
            w.wanted-is,
            entries-bad lines n c.line-item.result c.loop-line-test.true w.in-Bad.field-0
                (sym c.line-item.is ∙ w.in-Bad.is),
          ) so
    ]
