-- SPDX-License-Identifier: ISC
use Rattle.std.proofs.Common.{◌≡◌, ◌∙◌, ◌+◌, ◌<◌, ◌^◌, ◌∷◌, ◌++◌, [], Bool, ap, arith, length}
use Rattle.std.proofs.Common.{List, length-take, map, refl, subst, sym, take, ℕ}
use Rattle.std.specs.Prelude.{is_none}
use Rattle.std.proofs.lemmas.Bool.{true≢false}
use Rattle.std.proofs.lemmas.List.{map_push, take_all}
use Rattle.std.proofs.lemmas.List.Elements.{All-push}
use Rattle.std.proofs.lemmas.List.Sums.{count_by-le-length, count_by_more_no, count_by_more_yes}
use Rattle.std.proofs.lemmas.Slice.Zip.{all_zipped_more}
use Rattle.ring_sums.specs.Check.{AreCounted, Finding, IsChecked, IsFound, entries_of, entry_in}
use Rattle.ring_sums.specs.Check.{said_of}
use Rattle.ring_sums.specs.Outcomes.{IsOutcomeOf}
use Rattle.ring_sums.specs.declared.list.Line.{Line}
use Rattle.ring_sums.specs.declared.outcomes.Wanted.{Wanted}
use Rattle.ring_sums.proofs.CheckedLines.{entries-bad, entries-entry, entries-push, entry-below}
use Rattle.ring_sums.proofs.CheckedLines.{files-many, findings-few, findings-many}
use Rattle.ring_sums.proofs.CheckedParts.{checked-none}
use Rattle.ring_sums.proofs.Listed.{apart-kept, apart-next, written-kept}
use Rattle.ring_sums.proofs.Listed.{written-next}
use Rattle.ring_sums.proofs.WantedFiles.{done-all, done-more, done-none}
use Rattle.ring_sums.proofs.check.check_lines.Goals as goal
use Rattle.ring_sums.proofs.check.check_lines.Goals.{in-Bad+in_ok-warn_of_line-in-Bad}
use Rattle.ring_sums.proofs.check.check_lines.Goals.{in-Entry+in-Ok+in-Some+in_ok-answer-in-Entry}

pub loop-line-init : goal.loop-line-init
loop-line-init g c = λ files of to_come.
    let none = c.default-counts.ensures in
    record {
      done = [];
      rest = files;
      whole = refl;
      to_come = to_come;
      is = checked-none (none.1.0, none.1.1.1.1, none.1.1.0, none.1.1.1.0) none.0;
    }

pub returns-then-has_failed : goal.returns-then-has_failed
returns-then-has_failed g c = λ files of to_come.
    let so = c.loop-line.invariant files of to_come in
    record {
      done = so.done;
      rest = so.rest;
      whole = so.whole;
      to_come = so.to_come;
      is = (
        c.loop-line.line-index,
        so.is,
        λ none. absurd (true≢false (sym c.if-has_failed.true ∙ c.has_failed.ensures.1 none)),
      );
    }

pub returns-in_default-next : goal.returns-in_default-next
returns-in_default-next g c = λ files of to_come.
    let so = c.loop-line.invariant files of to_come in
    let given = rw c.in_default-next.is at c.in-Ok.ensures so.rest so.to_come in
    let below = entry-below c.args.lines.now c.loop-line.line-index c.line-item.result
    c.loop-line-test.true c.in-Entry.entry (sym c.line-item.is ∙ c.in-Entry.is) in
    absurd (omega (
      arith,
      done-none so.done so.rest so.whole given,
      below,
      findings-many so.is,
      files-many (entries_of c.args.lines.now) files of,
    ))

pub loop-line-preserved : goal.loop-line-preserved
loop-line-preserved g c = λ files of to_come.
    let all = c.loop-line.invariant files of to_come in
    let so = all.is in
    let lines = c.args.lines.now in
    let n = c.loop-line.line-index in
    let l = c.line-item.result in
    let here = c.loop-line-test.true in
    let few : length lines < 2 ^ 64 = omega arith in
    let said : Finding → List ℕ =
    λ f. said_of c.args.options.now.amount f.entry.name.items f.found in
    let is_bad : Line → Bool = λ line. is_none (entry_in line) in
    elim c.match-line.branch [
      | in-Bad+in_ok-warn_of_line-in-Bad w ↦
          let e = sym c.line-item.is ∙ w.in-Bad.is in
          rw (w.console-is, w.outcomes-is, w.counts-is) (record {
            done = all.done;
            rest = all.rest;
            whole = all.whole;
            to_come = all.to_come;
            is = record {
              findings = so.findings;
              entries = rw (entries-bad lines n l here w.in-Bad.number e) so.entries;
              read = so.read;
              found = so.found;
              said = written-kept so.said w.warn_of_line.ensures;
              stops = apart-kept so.stops w.warn_of_line.ensures;
              counted = so.counted;
              bad = omega (
                arith,
                w.saturating_add.ensures,
                so.bad,
                count_by_more_yes is_bad lines n l here (ap is_bad e),
                count_by-le-length is_bad (take n lines),
                length-take n lines,
                few,
              );
            };
          })
      | in-Entry+in-Ok+in-Some+in_ok-answer-in-Entry w ↦
          let e = sym c.line-item.is ∙ w.in-Entry.is in
          let entry = w.in-Entry.entry in
          let given = rw w.in-Some.is at w.in-Ok.ensures all.rest all.to_come in
          let one : Finding = record {
            entry = entry;
            outcome = w.in-Some.outcome;
            found = w.in_ok-answer-in-Entry.field-0;
          } in
          let P : Finding → Type 0 =
          λ f. IsFound c.args.options.now f.entry.listed.items f.outcome f.found in
          let After : List (Wanted _) → Type 0 = λ done.
          IsChecked g.S.Read.remaining g.S.Source.fails_with g.W.Write.contents c.args.options.now
          (take (n + 1) lines) done w.count.new.self c.args.console.now w.answer.new.console in
          let room = findings-few lines n so.findings few so.entries
          (entry-below lines n l here entry e) in
          rw (w.console-is, w.outcomes-is, w.counts-is) (done-more {After = After}
          one.outcome all.done all.rest all.whole given
          (λ file made. record {
            findings = so.findings ++ one ∷ [];
            entries = entries-push so.findings one so.entries
                (entries-entry lines n l here entry e);
            read = rw (map_push (λ (f : Finding). f.outcome) so.findings one)
                (all_zipped_more (IsOutcomeOf g.S.Read.remaining g.S.Source.fails_with) all.done
                (map (λ (f : Finding). f.outcome) so.findings) file one.outcome so.read made);
            found = All-push P so.findings one so.found w.in_ok-answer-in-Entry.ensures.found;
            said = written-next said so.findings one so.said
                w.in_ok-answer-in-Entry.ensures.said;
            stops = apart-next said so.findings one so.stops
                (c.has_failed.ensures.0 c.if-has_failed.false)
                w.in_ok-answer-in-Entry.ensures.said;
            counted = subst (λ z. AreCounted z w.count.new.self)
                (sym (map_push (λ (f : Finding). f.found) so.findings one))
                (w.count.ensures.counted (map (λ (f : Finding). f.found) so.findings) room
                so.counted);
            bad = omega (
              arith,
              w.count.ensures.bad,
              so.bad,
              count_by_more_no is_bad lines n l here (ap is_bad e),
            );
          }))
    ]

pub returns : goal.returns
returns g c = λ files of to_come.
    let so = c.loop-line.invariant files of to_come in
    let whole = take_all c.loop-line.line-index c.args.lines.now c.loop-line-test.false in
    let many : length so.done ≡ length files = omega (
      arith,
      findings-many so.is,
      ap (λ z. length (entries_of z)) whole,
      files-many (entries_of c.args.lines.now) files of,
    ) in
    record {
      done = so.done;
      rest = so.rest;
      whole = so.whole;
      to_come = so.to_come;
      is = (
        c.loop-line.line-index,
        so.is,
        λ none. (whole, done-all so.done so.rest so.whole many),
      );
    }
