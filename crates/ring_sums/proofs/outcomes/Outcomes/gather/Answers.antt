-- SPDX-License-Identifier: ISC
use Rattle.std.proofs.Common.{◌≡◌, [], append-nil, refl, sym}
use Rattle.std.proofs.lemmas.List.Elements.{All-nil}
use Rattle.ring_sums.specs.declared.outcomes.Wanted.{Wanted}
use Rattle.ring_sums.proofs.WantedFiles.{gathered-more}
use Rattle.ring_sums.proofs.outcomes.Outcomes.gather.Goals as goal

pub next-init : goal.next-init
next-init g c =
    let P : Wanted _ → Type 0 = λ file. file.algorithm ≡ c.args.algorithm.now in
    record {
      files = [];
      of = All-nil P;
      taken = refl;
      behind = sym (append-nil c.args.readers.now.items);
    }

pub next-preserved : goal.next-preserved
next-preserved g c =
    rw c.in_ok-push.ensures.items (gathered-more c.in-Some.next c.next.invariant
    (c.is_next_of.ensures c.next-test.true) c.in-Some.ensures.items)
