-- SPDX-License-Identifier: ISC
use Rattle.std.proofs.Common.{◌≡◌, ◌*◌, ◌≤◌, length, take}
use Rattle.ring.specs.Prelude.{joined}
use Rattle.ring.proofs.limits.joined_len.Given as goal

abbrev pub invariant-loop-piece : goal.invariant-loop-piece
invariant-loop-piece l =
    record {
      sum : l.len ≡ length (joined (take l.piece-index l.pieces));
      most : l.len ≤ l.piece-index * 18446744073709551615;
    }
