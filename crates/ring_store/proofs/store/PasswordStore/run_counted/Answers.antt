-- SPDX-License-Identifier: ISC
use Rattle.std.proofs.Common.{arith}
use Rattle.std.proofs.lemmas.List.{take_more, take_more_set}
use Rattle.ring_store.proofs.Runs.{IsCountedRun-push}
use Rattle.ring_store.proofs.store.PasswordStore.run_counted.Goals as goal

pub loop-i-preserved : goal.loop-i-preserved
loop-i-preserved g c =
    let command = c.index-commands-i.result in
    rw (
      take_more c.args.commands.now c.loop-i.i command c.loop-i-test.true,
      ← c.index-commands-i.is,
      take_more_set c.loop-i.replies c.loop-i.i c.follow.result (omega arith),
    )
    (IsCountedRun-push c.loop-i.meter command c.follow.ensures.ok c.follow.ensures.cost _ _ _ _
    c.loop-i.invariant)
