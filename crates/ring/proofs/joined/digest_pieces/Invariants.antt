-- SPDX-License-Identifier: ISC
use Rattle.std.proofs.Common.{take}
use Rattle.ring.specs.Prelude.{joined}
use Rattle.ring.proofs.Feeding.{HasFedDigest}
use Rattle.ring.proofs.joined.digest_pieces.Given as goal

abbrev pub invariant-pieces : goal.invariant-pieces
invariant-pieces l =
    HasFedDigest l.algorithm l.context (joined (take l.piece-index l.pieces)) l.fn.meter l.meter
