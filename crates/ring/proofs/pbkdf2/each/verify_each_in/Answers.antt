-- SPDX-License-Identifier: ISC
use Rattle.std.proofs.Common.{◌≡◌, ◌<◌, ℕ, arith, false, get_or, length, refl, rules, true}
use Rattle.std.specs.Int.NonZero.{non_zero_u32_get}
use Rattle.ring.specs.Prelude.{AreVerified, CanVerify, bytes_at, pbkdf2_digest}
use Rattle.ring.proofs.lemmas.pbkdf2.DerivedKeys.{derived-same}
use Rattle.ring.proofs.lemmas.pbkdf2.Rounds.{length-dk}
use Rattle.ring.proofs.lemmas.pbkdf2.Taking.{taken-all}
use Rattle.ring.proofs.pbkdf2.each.verify_each_in.Goals as goal

pub returns : goal.returns
returns g c =
    let same = c.hmac_algorithm-hmac_algorithm.ensures in
    let a = pbkdf2_digest c.args.algorithm in
    let iterations = non_zero_u32_get c.args.iterations in
    let salts = c.args.salts.now in
    let secrets = c.args.secrets.now in
    let values = c.args.previously_derived.now in
    let made = rw same at c.derive_all.ensures.ok in
    let matches = c.derive_all.new.receiver.matches.now in
    let took = taken-all made (λ place.
    (refl, refl, refl, λ some. absurd (omega (arith, some)), (λ e. (e, refl), λ h. h.0))) in
    let rest = took.0 in
    let within : (k : ℕ) → k < length values → CanVerify a (length (bytes_at secrets k))
    (length (bytes_at salts k)) g.row.N =
    λ k below. record { nonempty = search rules; within = search rules } in
    let all : AreVerified matches a salts secrets iterations values = record {
      count = omega (arith, rest.2);
      each = λ k below.
          let has = took.1 k k (omega (arith, below)) (omega arith) in
          let size = length-dk a (bytes_at secrets k) (bytes_at salts k) iterations g.row.N in
          let can = within k below in
          let begun : get_or c.fill.new.self k false ≡ true =
          c.fill.ensures.clones k false (omega (arith, below)) refl in
          let long = rw has.0 at (has.3 (omega (arith, size, can.nonempty))) in
          derived-same can long begun (rw has.0 at has.4);
    } in
    record {
      ok = search (rules, rest.1, all);
      refused = search rules;
      unchanged = search rules;
      cost = search rules;
    }
