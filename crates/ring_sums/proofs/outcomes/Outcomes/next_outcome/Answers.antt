-- SPDX-License-Identifier: ISC
use Rattle.std.proofs.Common.{◌≡◌, [], arith, map}
use Rattle.std.proofs.lemmas.List.{nil_from_length}
use Rattle.ring.proofs.Outcomes.{if_ok_map}
use Rattle.ring_sums.proofs.WantedFiles.{none-waits, run-gives, run-spent, some-first}
use Rattle.ring_sums.proofs.outcomes.Outcomes.next_outcome.Goals as goal

pub returns-in-Some : goal.returns-in-Some
returns-in-Some g c = λ files first.
    rw first.whole
    (run-gives _ _ first.first first.of (λ e. absurd (cc e)) (rw c.in-Some.is at
    c.in_ok-outcome.ensures first.algorithm (map (λ file. file.reader) first.first) first.run))

pub returns-in_default-pop_front : goal.returns-in_default-pop_front
returns-in_default-pop_front g c =
    let none = rw c.in_default.is at c.in_ok-outcome.ensures in
    let waiting = c.args.self.now.waiting in
    let empty : waiting.items ≡ [] = nil_from_length waiting.items
    (omega (arith, c.in_default-pop_front.ensures.cases, waiting.ok.0)) in λ files first.
    let spent = run-spent first
    (none first.algorithm (map (λ file. file.reader) first.first) first.run) in
    rw (spent.0, empty)
    (none-waits spent.1 (rw (← empty) c.in_default-pop_front.ensures.items))

pub returns : goal.returns
returns g c =
    let none = rw c.in_default.is at c.in_ok-outcome.ensures in
    let begun = c.in_ok-begin.ensures.begun in
    if_ok_map c.next_outcome-2.result (λ outcome is files first.
    let spent = run-spent first
    (none first.algorithm (map (λ file. file.reader) first.first) first.run) in
    rw (spent.0, c.in-Some-pop_front.ensures.items, begun.whole)
    (run-gives _ outcome begun.first begun.of
    (λ _. some-first {new = c.begin.new.self} begun c.in_ok-begin.ensures.some)
    (is begun.algorithm (map (λ file. file.reader) begun.first) begun.run)))
    c.next_outcome-2.ensures
