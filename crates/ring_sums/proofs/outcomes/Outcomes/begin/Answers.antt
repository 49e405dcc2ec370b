-- SPDX-License-Identifier: ISC
use Rattle.std.proofs.Common.{◌≡◌, ◌∷◌, [], refl}
use Rattle.std.proofs.lemmas.List.Elements.{All-nil}
use Rattle.ring_sums.specs.Outcomes.{AreGathered}
use Rattle.ring_sums.specs.declared.outcomes.Wanted.{Wanted}
use Rattle.ring_sums.proofs.WantedFiles.{run-begun}
use Rattle.ring_sums.proofs.outcomes.Outcomes.begin.Goals as goal
use Rattle.ring_sums.proofs.outcomes.Outcomes.begin.Goals.{else-not-is_alone}
use Rattle.ring_sums.proofs.outcomes.Outcomes.begin.Goals.{then-not-is_alone+in_ok-gather}

pub returns : goal.returns
returns g c =
    let after = c.if-not-is_alone in
    let first = c.args.first in
    let P : Wanted _ → Type 0 = λ file. file.algorithm ≡ first.algorithm in
    let so : AreGathered first.algorithm (first.reader ∷ []) after.readers.items
    c.args.self.now.waiting.items after.self.waiting.items = elim after.branch [
      | then-not-is_alone+in_ok-gather w ↦
          rw (w.self-is, w.readers-is) (rw (c.in_ok-push.ensures.items, c.new-readers.ensures.items)
          at w.in_ok-gather.ensures)
      | else-not-is_alone w ↦
          rw (w.self-is, w.readers-is, c.in_ok-push.ensures.items, c.new-readers.ensures.items)
          (record { files = []; of = All-nil P; taken = refl; behind = refl })
    ] in
    let all = run-begun first so c.new.ensures in record { begun = all.0; some = all.1 }
