-- SPDX-License-Identifier: ISC
use Rattle.std.proofs.Common.{◌≡◌, ◌*◌, arith, length, refl}
use Rattle.std.specs.Int.NonZero.{non_zero_u32_get}
use Rattle.ring.specs.Prelude.{derive_blocks_at, hmac_digest, raised, sum_below}
use Rattle.ring.proofs.lemmas.pbkdf2.DerivedKeys.{blocks-part, part-of, can_derive-under}
use Rattle.ring.proofs.Each.{message_at-part}
use Rattle.ring.proofs.lemmas.pbkdf2.Places.{items_from}
use Rattle.ring.proofs.Sums.{raised-both, raised_zero, sum_below-times}
use Rattle.ring.proofs.lemmas.pbkdf2.Taking.{keeps-more, places-kept, takes-none, takes-places}
use Rattle.ring.proofs.pbkdf2.each.derive_all.Goals as goal

pub keys-init : goal.keys-init
unfolding sum_below
keys-init g c =
    record {
      within = omega arith;
      same = grind arith;
      cost = grind (arith, raised_zero);
      taken = takes-none (λ i below. grind arith);
    }

pub keys_of-keys-requires : goal.keys_of-keys-requires
keys_of-keys-requires g c =
    let at = c.keys.made in
    let k = c.min-count.result in
    let part = part-of c.requires.within at k (omega arith) in
    rw (part.size, part.can.secret_count) (record {
      some = omega arith;
      most = omega arith;
      within = λ i below. (part.can.each i below).secret;
    })

pub derive_under-requires : goal.derive_under-requires
derive_under-requires g c =
    let h = c.keys.invariant in
    let at = c.keys.made in
    let k = c.min-count.result in
    let part = part-of c.requires.within at k (omega arith) in
    let keys = rw (part.size, part.can.secret_count) at c.keys_of-keys.ensures in
    rw (part.size, keys.count, c.digest_algorithm-digest.ensures) (record {
      under = can_derive-under part.can (omega arith) keys.count keys.ok;
      room = places-kept h.same c.requires.room part.room (omega arith);
    })

pub keys-preserved : goal.keys-preserved
keys-preserved g c =
    let h = c.keys.invariant in
    let at = c.keys.made in
    let k = c.min-count.result in
    let salts = c.args.salts.now in
    let secrets = c.args.secrets.now in
    let part = part-of c.requires.within at k (omega arith) in
    let keys = rw (part.size, part.can.secret_count) at c.keys_of-keys.ensures in
    let derived =
    rw (part.size, keys.count, c.digest_algorithm-digest.ensures) at c.derive_under.ensures in
    let a = hmac_digest c.args.algorithm in
    let iterations = non_zero_u32_get c.args.iterations in
    let cost : c.derive_under.new.meter ≡ raised c.keys.meter (sum_below (derive_blocks_at a
    (items_from at k salts) (items_from at k secrets) iterations c.args.len) k)
    (g.R.Receiver.pairs * (k * c.args.len)) =
    raised-both _ _ _ _ _ (keys.cost, derived.cost) (sum_below-times _ _ _ _) (omega arith) in
    record {
      within = part.room;
      same = keeps-more h.same derived.same;
      cost = raised-both _ _ _ _ _ (h.cost, cost)
          (blocks-part a salts secrets iterations c.args.len at k) (grind arith);
      taken = takes-places h.taken (derived.ok _ keys.ok) (omega arith) (λ j below.
          rw (message_at-part secrets at k j below, message_at-part salts at k j below) refl);
    }

pub returns : goal.returns
returns g c =
    let h = c.keys.invariant in
    let all : c.keys.made ≡ length c.args.secrets.now =
    omega (arith, h.within, c.keys-test.false) in
    record { ok = rw all at h.taken; cost = rw all at h.cost }
