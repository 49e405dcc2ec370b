-- SPDX-License-Identifier: ISC
use Rattle.std.proofs.Common.{take}
use Rattle.ring_store.specs.Command.{IsCountedRun}
use Rattle.ring_store.proofs.store.PasswordStore.run_counted.Given as goal

abbrev pub invariant-loop-i : goal.invariant-loop-i
invariant-loop-i g l =
    IsCountedRun l.initial.self (take l.i l.commands) (take l.i l.replies) l.self l.initial.meter
    l.meter
