-- SPDX-License-Identifier: ISC
use Rattle.std.proofs.Common.{◌≡◌, ◌∙◌, arith, length, refl, rules, sym}
use Rattle.std.specs.Int.NonZero.{non_zero_u32_get}
use Rattle.ring.specs.Prelude.{CanVerify, derive_blocks, pbkdf2_digest, raised, sum_below}
use Rattle.ring.proofs.lemmas.pbkdf2.DerivedKeys.{can_derive-alone, derived-same, key-alone}
use Rattle.ring.proofs.lemmas.pbkdf2.DerivedKeys.{received-alone}
use Rattle.ring.proofs.Sums.{raised-both}
use Rattle.ring.proofs.pbkdf2.verify_in.Goals as goal

pub derive_under-requires-clause-under : goal.derive_under-requires-clause-under
derive_under-requires-clause-under g c =
    let can : CanVerify c.digest_algorithm-digest.result (length c.args.secret.now)
    (length c.args.salt.now) (length c.args.previously_derived.now) = search rules in
    can_derive-alone {secret_len = length c.args.secret.now} refl refl
    (c.key_within.ensures.algorithm ∙ sym c.digest_algorithm-digest.ensures) can.within

pub returns : goal.returns
unfolding sum_below
returns g c =
    let key = c.key_within.ensures in
    let digest = c.digest_algorithm-digest.ensures in
    let same = digest ∙ c.hmac_algorithm-hmac_algorithm.ensures in
    let made = c.derive_under.ensures.ok _ (key-alone (key.algorithm ∙ sym digest) key.ok) in
    let has = rw same at (received-alone made (omega arith)
    (λ start. (refl, λ zero. (λ e. (e, refl), λ h. h.0)))) in
    let within : CanVerify (pbkdf2_digest c.args.algorithm) (length c.args.secret.now)
    (length c.args.salt.now) (length c.args.previously_derived.now) = search rules in
    let told = derived-same within refl refl (rw has.0 at (has.1 refl)) in
    let len = length c.args.previously_derived.now in
    let cost : c.derive_under.new.meter ≡ raised c.args.meter.now
    (derive_blocks (pbkdf2_digest c.args.algorithm) (length c.args.secret.now)
    (length c.args.salt.now) (non_zero_u32_get c.args.iterations) len) len =
    raised-both _ _ _ _ _ (
      rw c.hmac_algorithm-hmac_algorithm.ensures at key.cost,
      rw same at c.derive_under.ensures.cost,
    ) (omega arith) (omega arith) in
    record {
      ok = search (rules, told);
      unchanged = search rules;
      cost = λ can. grind (arith, cost);
    }
