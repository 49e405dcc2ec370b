-- SPDX-License-Identifier: ISC
use Rattle.std.proofs.Common.{◌%◌, refl, arith}
use Rattle.std.proofs.lemmas.Bool.{eq-eqb, ne_eqb}
use Rattle.ring_merkle.proofs.Shifts.{shifted-end, shifted-up}
use Rattle.ring_merkle.proofs.place.Place.even.Goals as goal

pub loop-place-preserved : goal.loop-place-preserved
loop-place-preserved c =
    rw (c.up-place.ensures.node, c.up-place.ensures.last)
    (shifted-up refl (ne_eqb (c.loop-place.place.node % 2) 0 (λ z. omega arith))
    c.loop-place.invariant)

pub returns-clause-node : goal.returns-clause-node
returns-clause-node c =
    (shifted-end (eq-eqb _ 0 (omega (arith, c.loop-place-test.false))) c.loop-place.invariant).0

pub returns-clause-last : goal.returns-clause-last
returns-clause-last c =
    (shifted-end (eq-eqb _ 0 (omega (arith, c.loop-place-test.false))) c.loop-place.invariant).1
