-- SPDX-License-Identifier: ISC
use Rattle.std.proofs.Common.{◌⊎◌, ap, arith, inl, inr, subst, sym}
use Rattle.std.specs.Prelude.{Err}
use Rattle.ring_tokens.specs.InPlace.{IsUsualJws}
use Rattle.ring_c.proofs.jws.yz_jws_verify.Goals as goal

neither : {A B : Type 0} → A ⊎ B → (A → ⊥) → (B → ⊥) → ⊥
neither (inl a) f g = f a
neither (inr b) f g = g b

pub returns-in_default-verify_in_place-clause-valid :
    goal.returns-in_default-verify_in_place-clause-valid
returns-in_default-verify_in_place-clause-valid c = λ p is.
    let w = subst (λ a. IsUsualJws a c.args.key.now c.args.token.now p)
    (sym c.in-Ok.ensures.algorithm) (is c.in-Some.alg (sym c.in-Some.ensures)) in
    let refusal = c.in_default-verify_in_place.ensures in
    absurd (neither refusal.refused
    (λ e. refusal.invalid c.args.key.now c.in-Ok.ensures.ok (ap Err e) w.header p w.usual w.signed)
    (λ e. omega (arith, refusal.no_room.0 (ap Err e), c.if-payload-token.false)))
