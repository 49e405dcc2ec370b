-- SPDX-License-Identifier: ISC
use Rattle.std.proofs.Common.{◌-◌, length}
use Rattle.ring.specs.Prelude.{joined}
use Rattle.ring.proofs.lemmas.hkdf.Expanding.{IsWritten}
use Rattle.ring.proofs.hkdf.rounds.write_output.Given as goal

abbrev pub invariant-loop-out : goal.invariant-loop-out
invariant-loop-out l =
    IsWritten l.key (joined l.info) l.rounds l.written l.tag l.out l.fn.meter l.meter

abbrev pub decreases-loop-out : goal.decreases-loop-out
decreases-loop-out l = length l.out - l.written
