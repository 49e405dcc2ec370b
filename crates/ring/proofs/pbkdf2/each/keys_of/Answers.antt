-- SPDX-License-Identifier: ISC
use Rattle.std.proofs.lemmas.Grind.{common_steps}
use Rattle.std.proofs.Common.{◌≡◌, arith, length, refl, rules, get_or-take}
use Rattle.ring.proofs.Each.{message-read}
use Rattle.ring.proofs.lemmas.pbkdf2.Places.{places-next, risen-next, risen-none}
use Rattle.ring.proofs.pbkdf2.each.keys_of.Goals as goal

pub key_within-requires : goal.key_within-requires
key_within-requires c =
    rw (message-read c.args.secrets.now c.keys.i) at (c.requires.within c.keys.i (omega arith))

pub keys-init : goal.keys-init
keys-init c =
    let secrets = c.args.secrets.now in
    let first = c.key_within-first.ensures in
    record {
      keys = record {
        each = λ i d below. grind (arith, common_steps, message-read secrets 0, first);
      };
      size = refl;
      cost = risen-next risen-none (rw (message-read secrets 0) first.cost);
    }

pub keys-preserved : goal.keys-preserved
keys-preserved c =
    let secrets = c.args.secrets.now in
    let i = c.keys.i in
    let size = c.keys.invariant.size in
    let key = c.key_within.ensures in
    record {
      keys = places-next _ i c.keys.invariant.keys
          (omega (arith, size, c.requires.most)) (rw (message-read secrets i)
          record { algorithm = key.algorithm; stands = key.ok });
      size = search (rules, size);
      cost = risen-next c.keys.invariant.cost (rw (message-read secrets i) key.cost);
    }

pub returns-clause-ok : goal.returns-clause-ok
returns-clause-ok c =
    let secrets = c.args.secrets.now in
    let last : c.keys.i ≡ length secrets = omega (arith, c.requires.some) in
    let size = c.keys.invariant.size in
    record {
      each = λ i key below.
          grind (arith, common_steps, c.keys.invariant.keys.each i key, get_or-take);
    }
