-- SPDX-License-Identifier: ISC
use Rattle.std.proofs.Common.{refl, rules, sym}
use Rattle.ring_c.proofs.Finds.{finds, misses}
use Rattle.ring_c.proofs.otp.yz_hotp_find.Goals as goal

pub returns-in_default-find_hotp : goal.returns-in_default-find_hotp
returns-in_default-find_hotp c =
    misses (sym c.in-Some.ensures) (sym c.in-Some-digits_of_number.ensures.ok)
    c.in-Ok.ensures.algorithm (search rules)
    (c.in_default-find_hotp.ensures.refused c.args.key.now c.in-Ok.ensures.ok refl)

pub returns : goal.returns
returns c =
    finds (sym c.in-Some.ensures) (sym c.in-Some-digits_of_number.ensures.ok)
    c.in-Ok.ensures.algorithm (search rules) (search rules)
    (c.in-Some-find_hotp.ensures.ok c.args.key.now c.in-Ok.ensures.ok)
