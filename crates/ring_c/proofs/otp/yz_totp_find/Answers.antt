-- SPDX-License-Identifier: ISC
use Rattle.std.proofs.Common.{◌≡◌, ◌==◌, arith, refl, rules, sym, true}
use Rattle.std.specs.Prelude.{not}
use Rattle.std.specs.Int.NonZero.{non_zero_u32_get}
use Rattle.std.proofs.lemmas.Bool.Decides.{nat_tests}
use Rattle.ring_c.proofs.Finds.{finds, misses}
use Rattle.ring_c.proofs.otp.yz_totp_find.Goals as goal

pub returns-in_default-find_totp : goal.returns-in_default-find_totp
returns-in_default-find_totp c =
    rw (← c.in-Some-new.ensures)
    (misses (sym c.in-Some.ensures) (sym c.in-Some-digits_of_number.ensures.ok)
    c.in-Ok.ensures.algorithm (search rules)
    (c.in_default-find_totp.ensures.refused c.args.key.now c.in-Ok.ensures.ok refl))

pub returns : goal.returns
returns c =
    let step = c.in-Some-new.step in
    let some : not (non_zero_u32_get step == 0) ≡ true = grind (arith, nat_tests, step.ok) in
    rw (← c.in-Some-new.ensures)
    (finds (sym c.in-Some.ensures) (sym c.in-Some-digits_of_number.ensures.ok)
    c.in-Ok.ensures.algorithm (rw some (search rules)) (search rules)
    (c.in-Some-find_totp.ensures.ok c.args.key.now c.in-Ok.ensures.ok))
