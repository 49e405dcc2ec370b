-- SPDX-License-Identifier: ISC
use Rattle.std.proofs.Common.{take}
use Rattle.ring.specs.Prelude.{joined}
use Rattle.ring.proofs.Feeding.{HasFedTag}
use Rattle.ring.proofs.joined.sign_pieces.Given as goal

abbrev pub invariant-parts : goal.invariant-parts
invariant-parts l =
    HasFedTag l.key l.context (joined (take l.piece-index l.pieces)) l.fn.meter l.meter
