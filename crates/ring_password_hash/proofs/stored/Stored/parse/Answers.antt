-- SPDX-License-Identifier: ISC
use Rattle.std.proofs.Common.{◌≡◌, arith, refl}
use Rattle.ring_password_hash.specs.Stored.{IsTextOf, Parts}
use Rattle.ring_password_hash.specs.declared.scheme.Scheme.{Scheme}
use Rattle.ring_password_hash.proofs.Schemes.{at_each, at_next}
use Rattle.ring_password_hash.proofs.stored.Stored.parse.Goals as goal

pub schemes-preserved : goal.schemes-preserved
schemes-preserved c =
    at_next (λ (k : Scheme). (h : Parts) → h.scheme ≡ k → IsTextOf h c.args.text.now → ⊥)
    c.schemes.i c.schemes.invariant (c.in_default.ensures.refused refl)

pub returns : goal.returns
returns c =
    let all = at_each (λ (k : Scheme). (h : Parts) → h.scheme ≡ k → IsTextOf h c.args.text.now → ⊥)
    (λ i below. c.schemes.invariant i (omega (arith, below, c.schemes-test.false))) in
    (refl, λ h. all h.scheme h refl)
