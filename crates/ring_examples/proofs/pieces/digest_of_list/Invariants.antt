-- SPDX-License-Identifier: ISC
use Rattle.std.proofs.Common.{◌≡◌, take}
use Rattle.ring.specs.Prelude.{StandsFor, context_algorithm, joined}
use Rattle.ring_examples.proofs.pieces.digest_of_list.Given as goal

abbrev pub invariant-pieces : goal.invariant-pieces
invariant-pieces l =
    StandsFor l.context (joined (take l.piece-index l.pieces))
    × (context_algorithm l.context ≡ l.algorithm)
