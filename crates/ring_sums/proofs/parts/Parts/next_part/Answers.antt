-- SPDX-License-Identifier: ISC
use Rattle.std.proofs.Common.{[], arith}
use Rattle.std.proofs.KnownBytes.{Consumes-nil, Consumes-trans}
use Rattle.ring_sums.proofs.ListParts.{part-behind}
use Rattle.ring_sums.proofs.parts.Parts.next_part.Goals as goal

pub reads-init : goal.reads-init
reads-init g c = record {
  room = omega (arith, c.in_ok-block.ensures.len);
  left = Consumes-nil _;
}

pub reads-preserved : goal.reads-preserved
reads-preserved g c = record {
  room = c.reads.invariant.room;
  left = Consumes-trans _ _ _ [] [] c.reads.invariant.left
      (c.in_ok-part.ensures.none (grind arith));
}

pub returns-in-Some : goal.returns-in-Some
returns-in-Some g c =
    part-behind c.reads.invariant.left (rw c.in-Some.is at c.in_ok-part.ensures.some)

pub returns : goal.returns
returns g c = part-behind c.reads.invariant.left (c.end.ensures (λ none. absurd (cc none)))
