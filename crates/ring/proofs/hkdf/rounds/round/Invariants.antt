-- SPDX-License-Identifier: ISC
use Rattle.std.proofs.Common.{◌++◌, take}
use Rattle.ring.specs.Prelude.{joined}
use Rattle.ring.proofs.Feeding.{HasFedTag}
use Rattle.ring.proofs.hkdf.rounds.round.Given as goal

abbrev pub invariant-loop-piece : goal.invariant-loop-piece
invariant-loop-piece l =
    let taken = l.previous ++ joined (take l.piece-index l.info) in
    HasFedTag l.key l.context taken l.fn.meter l.meter
