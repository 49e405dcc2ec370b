-- SPDX-License-Identifier: ISC
use Rattle.std.proofs.Common.{◌≡◌, ◌+◌, ◌-◌, ◌++◌, ◌∙◌, ℕ, ap, arith, refl, rules, sym, take}
use Rattle.std.specs.Prelude.{slice_index, slice_set}
use Rattle.ring_password_hash.specs.Salt.{letters, symbols}
use Rattle.ring_password_hash.proofs.Salts.{letters_all, letters_more}
use Rattle.ring_password_hash.proofs.salt.letters.Goals as goal

pub places-init : goal.places-init
places-init c = record { len = refl; so_far = refl }

pub places-preserved : goal.places-preserved
places-preserved c =
    let len = c.places.invariant.len in
    let i = c.places.i in
    let written = slice_set c.places.salt i (slice_index symbols c.divided-quotient.result.1) in
    record {
      len = search rules;
      so_far = letters_more c.args.number i c.places.rest c.places.salt c.places-test.true len
          (ap (slice_index symbols) c.divided-quotient.ensures.rest) c.places.invariant.so_far
          ∙ ap (λ (r : ℕ). take (i + 1) written ++ letters (22 - (i + 1)) r)
          (sym c.divided-quotient.ensures.quotient);
    }

pub returns : goal.returns
returns c =
    let end = c.places.auto.i-end in
    let all : c.places.i ≡ 22 = omega (arith, end, c.places-test.false) in
    letters_all c.args.number c.places.i c.places.rest c.places.salt all c.places.invariant.len
    c.places.invariant.so_far
