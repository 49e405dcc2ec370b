-- SPDX-License-Identifier: ISC
use Rattle.std.proofs.Common.{◌∙◌, refl, sym}
use Rattle.ring_merkle.proofs.Shifts.{shifted-end, shifted-up}
use Rattle.ring_merkle.proofs.place.Place.odd_or_zero.Goals as goal

pub loop-place-preserved : goal.loop-place-preserved
loop-place-preserved c =
    rw (c.up-place.ensures.node, c.up-place.ensures.last)
    (shifted-up refl (sym c.is_odd_or_zero.ensures ∙ c.loop-place-test.true)
    c.loop-place.invariant)

pub returns-clause-node : goal.returns-clause-node
returns-clause-node c =
    (shifted-end (sym c.is_odd_or_zero.ensures ∙ c.loop-place-test.false) c.loop-place.invariant).0

pub returns-clause-last : goal.returns-clause-last
returns-clause-last c =
    (shifted-end (sym c.is_odd_or_zero.ensures ∙ c.loop-place-test.false) c.loop-place.invariant).1
