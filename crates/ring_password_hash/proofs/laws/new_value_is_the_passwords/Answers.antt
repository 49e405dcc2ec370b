-- SPDX-License-Identifier: ISC
use Rattle.std.proofs.Common.{◌≡◌, false, arith, refl}
use Rattle.std.specs.Prelude.{nat_lt}
use Rattle.std.proofs.lemmas.Bool.Decides.{nat_tests}
use Rattle.std.proofs.lemmas.Slice.Eq.{bytes_eq-Decides}
use Rattle.std.specs.Int.NonZero.{non_zero_u32_get}
use Rattle.ring_password_hash.specs.Scheme.{kept_len_of}
use Rattle.ring_password_hash.specs.Stored.{derived_of}
use Rattle.ring_password_hash.proofs.Made.{length-derived_of}
use Rattle.ring_password_hash.proofs.laws.new_value_is_the_passwords.Goals as goal

pub returns : goal.returns
returns c = λ k p s count most can within.
    let fewer : nat_lt most (non_zero_u32_get count) ≡ false = grind (arith, nat_tests, within) in
    let long = length-derived_of k p s (non_zero_u32_get count) in
    let h = derived_of k p s (non_zero_u32_get count) (kept_len_of k) in
    rw (fewer, long, can, (bytes_eq-Decides h h).1 refl) refl
