-- SPDX-License-Identifier: ISC
use Rattle.std.proofs.Common.{ap, arith, length, refl}
use Rattle.ring_sums.proofs.Lists.{length-cut, lines_in-cut, lines_in-whole, said-last, said-next}
use Rattle.ring_sums.proofs.list.lines_of.Goals as goal

pub cuts-init : goal.cuts-init
cuts-init c = rw c.new-lines.ensures.items (record {
  room = omega arith;
  many = refl;
  said = record { joins = λ said after says. says };
})

pub cuts-preserved : goal.cuts-preserved
cuts-preserved c =
    let cut = c.in-Some.ensures.ok in
    let shorter = length-cut cut in
    record {
      room = omega arith;
      many = omega (arith, c.cuts.invariant.many, ap length (lines_in-cut cut));
      said = said-next c.cuts.invariant.said cut c.in_ok-append_line.ensures;
    }

pub returns-clause-says : goal.returns-clause-says
returns-clause-says c =
    said-last c.cuts.invariant.said (c.in_default.ensures.refused (grind arith))
    c.in_ok-append_line-2.ensures

pub returns-clause-counted : goal.returns-clause-counted
returns-clause-counted c =
    let last = c.in_default.ensures.refused (grind arith) in
    let one = ap length (lines_in-whole c.cuts.rest.now last) in
    omega (arith, c.cuts.invariant.many, one)
