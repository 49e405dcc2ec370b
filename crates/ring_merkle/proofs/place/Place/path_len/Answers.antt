-- SPDX-License-Identifier: ISC
use Rattle.std.proofs.Common.{◌^◌, ◌<◌, ap, arith, length, rules}
use Rattle.std.proofs.lemmas.Bool.Decides.{nat_tests}
use Rattle.ring_merkle.proofs.Sides.{length-sides, length-up, sides-none}
use Rattle.ring_merkle.proofs.place.Place.path_len.Goals as goal

pub loop-place-init : goal.loop-place-init
loop-place-init c = record { within = c.requires; all = omega arith }

pub overflow_add-len : goal.overflow_add-len
overflow_add-len c =
    let n = c.loop-place.place.node in
    let m = c.loop-place.place.last in
    let inv = c.loop-place.invariant in
    let fits : m < 2 ^ 64 = search rules in
    let up = length-up 63 n m inv.within fits in
    let most = length-sides 64 c.args.self.node c.args.self.last in
    grind (arith, nat_tests, inv.all, up, most)

pub loop-place-preserved : goal.loop-place-preserved
loop-place-preserved c =
    let n = c.loop-place.place.node in
    let m = c.loop-place.place.last in
    let inv = c.loop-place.invariant in
    let fits : m < 2 ^ 64 = search rules in
    let up = length-up 63 n m inv.within fits in
    rw (c.up-place.ensures.node, c.up-place.ensures.last) (record {
      within = omega (arith, inv.within);
      all = grind (arith, nat_tests, inv.all, up);
    })

pub returns-clause-count : goal.returns-clause-count
returns-clause-count c =
    let inv = c.loop-place.invariant in
    omega (
      arith,
      inv.all,
      ap length (sides-none 64 c.loop-place.place.node c.loop-place.place.last inv.within
          (omega (arith, c.loop-place-test.false))),
    )

pub returns-clause-most : goal.returns-clause-most
returns-clause-most c =
    omega (
      arith,
      c.loop-place.invariant.all,
      length-sides 64 c.args.self.node c.args.self.last,
    )
