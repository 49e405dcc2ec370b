-- SPDX-License-Identifier: ISC
use Rattle.std.proofs.Common.{◌∙◌, [], arith, refl, rules, sym, take_all}
use Rattle.std.specs.Int.NonZero.{non_zero_u32_get}
use Rattle.ring_core.specs.Prelude.{array_at}
use Rattle.ring.specs.Prelude.{AreDerived, bytes_at, pbkdf2_digest}
use Rattle.ring.proofs.lemmas.pbkdf2.Rounds.{length-dk}
use Rattle.ring.proofs.lemmas.pbkdf2.Taking.{taken-all}
use Rattle.ring.proofs.pbkdf2.each.derive_each_in.Goals as goal

pub returns : goal.returns
returns g c =
    let a = pbkdf2_digest c.args.algorithm in
    let iterations = non_zero_u32_get c.args.iterations in
    let secrets = c.args.secrets.now in
    let salts = c.args.salts.now in
    let made = rw c.hmac_algorithm-hmac_algorithm.ensures at c.derive_all.ensures.ok in
    let out = c.derive_all.new.receiver.out.now in
    let took = taken-all made (λ place. (refl, refl, refl, refl)) in
    let rest = took.0 in
    let all : AreDerived out a salts secrets iterations g.row.N = record {
      count = omega (arith, rest.1);
      each = λ k below.
          let has = took.1 k k below (omega arith) in
          let zeros = c.clear.ensures k [] (omega (arith, below)) in
          let size = length-dk a (bytes_at secrets k) (bytes_at salts k) iterations g.row.N in
          sym (take_all _ (array_at out k) (omega (arith, has.2, zeros, size))) ∙ has.3;
    } in
    search (rules, rest.0, all)
