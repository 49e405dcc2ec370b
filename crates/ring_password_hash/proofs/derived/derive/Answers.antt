-- SPDX-License-Identifier: ISC
use Rattle.std.proofs.Common.{◌≡◌, ◌∙◌, true, ap, length, rules, sym}
use Rattle.ring.proofs.Each.{raised-then}
use Rattle.ring.specs.Prelude.{can_derive, pbkdf2_digest}
use Rattle.ring_password_hash.specs.Scheme.{keeps_keys}
use Rattle.ring_password_hash.specs.Stored.{keys_of}
use Rattle.ring_password_hash.proofs.derived.derive.Goals as goal

pub write_keys-requires : goal.write_keys-requires
write_keys-requires c = c.requires (sym c.row-row.ensures.keeps_keys ∙ c.if-not-row.false)

pub returns : goal.returns
returns c =
    let keys : keeps_keys c.args.scheme ≡ true =
    sym c.row-row.ensures.keeps_keys ∙ c.if-not-row.false in
    let a = c.row-row.ensures.algorithm in
    let one = c.in_ok-derive_counted.ensures in
    let salted = rw a at one.ok in
    let can : can_derive (pbkdf2_digest c.row-row.result.algorithm) (length c.args.password.now)
    (length c.args.salt.now) 32 ≡ true = search rules in
    record {
      can = rw keys (rw a at can);
      ok = rw keys (c.write_keys.ensures.ok ∙ ap keys_of salted);
      cost = rw keys
          (raised-then c.args.meter.now _ _ (rw a at one.cost) c.write_keys.ensures.cost);
      refused = tt;
      unchanged = tt;
    }
