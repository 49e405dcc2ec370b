-- SPDX-License-Identifier: ISC
use Rattle.std.proofs.Common.{[], arith, refl, sym}
use Rattle.ring_sums.proofs.InLanes.{in-none}
use Rattle.ring_sums.proofs.sums.Sums.new.Goals as goal

pub returns : goal.returns
returns g c =
    record {
      given = [];
      begun = [];
      whole = sym c.into_iter.ensures.rest;
      algorithm = refl;
      total = omega (arith, c.len.ensures, c.args.readers.ok.0);
      count = rw c.new-2.ensures.items refl;
      reading = rw (c.new.ensures.lanes, c.new.ensures.contexts) in-none;
      found = rw c.new-2.ensures.items
          (record { each = λ k r o below. absurd (omega (arith, below)) });
    }
