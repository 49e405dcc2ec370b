-- SPDX-License-Identifier: ISC
use Rattle.std.proofs.Common.{◌≡◌, ◌∙◌, arith, length, refl, rules, sym, take_all}
use Rattle.std.specs.Int.NonZero.{non_zero_u32_get}
use Rattle.ring.specs.Prelude.{CanDerive, derive_blocks, pbkdf2_digest, raised, sum_below}
use Rattle.ring.proofs.lemmas.pbkdf2.DerivedKeys.{can_derive-alone, key-alone, received-alone}
use Rattle.ring.proofs.lemmas.pbkdf2.Rounds.{length-dk}
use Rattle.ring.proofs.Sums.{raised-both}
use Rattle.ring.proofs.pbkdf2.derive_in.Goals as goal

pub derive_under-requires-clause-under : goal.derive_under-requires-clause-under
derive_under-requires-clause-under g c =
    let can : CanDerive c.digest_algorithm-digest.result (length c.args.secret.now)
    (length c.args.salt.now) (length c.args.out.now) = search rules in
    can_derive-alone {secret_len = length c.args.secret.now} refl refl
    (c.key_within.ensures.algorithm ∙ sym c.digest_algorithm-digest.ensures) can

pub returns : goal.returns
unfolding sum_below
returns g c =
    let key = c.key_within.ensures in
    let digest = c.digest_algorithm-digest.ensures in
    let same = digest ∙ c.hmac_algorithm-hmac_algorithm.ensures in
    let made = c.derive_under.ensures.ok _ (key-alone (key.algorithm ∙ sym digest) key.ok) in
    let has = rw same at (received-alone made (omega arith)
    (λ start. (refl, refl, λ zero. refl))) in
    let size = length-dk (pbkdf2_digest c.args.algorithm) c.args.secret.now c.args.salt.now
    (non_zero_u32_get c.args.iterations) (length c.args.out.now) in
    let all : c.derive_under.new.receiver.out.now ≡ _ =
    sym (take_all _ _ (omega (arith, has.1, size))) ∙ has.2 refl in
    let cost : c.derive_under.new.meter ≡ raised c.args.meter.now
    (derive_blocks (pbkdf2_digest c.args.algorithm) (length c.args.secret.now)
    (length c.args.salt.now) (non_zero_u32_get c.args.iterations) (length c.args.out.now)) 0 =
    raised-both _ _ _ _ _ (
      rw c.hmac_algorithm-hmac_algorithm.ensures at key.cost,
      rw same at c.derive_under.ensures.cost,
    ) (omega arith) (omega arith) in
    record {
      ok = search (rules, has.0, all);
      refused = search rules;
      unchanged = search rules;
      cost = search (rules, cost);
    }
