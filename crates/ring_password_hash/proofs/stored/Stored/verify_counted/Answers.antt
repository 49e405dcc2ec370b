-- SPDX-License-Identifier: ISC
use Rattle.std.proofs.Common.{◌≡◌, false, length, refl, rules}
use Rattle.std.specs.Prelude.{nat_lt}
use Rattle.std.specs.Int.NonZero.{non_zero_u32_get}
use Rattle.ring_password_hash.specs.Stored.{parts_of}
use Rattle.ring_password_hash.proofs.Testing.{tests_right, tests_wrong}
use Rattle.ring_password_hash.proofs.stored.Stored.verify_counted.Goals as goal

pub returns-in-Ok-verify_slices_are_equal_counted
    : goal.returns-in-Ok-verify_slices_are_equal_counted
returns-in-Ok-verify_slices_are_equal_counted c =
    let h = parts_of c.args.self.now in
    let most = c.args.max_iterations in
    let fits : nat_lt most (non_zero_u32_get h.iterations) ≡ false = search rules in
    let long : length c.derive.new.out ≡ length h.kept = search rules in
    tests_right h c.args.password.now most fits long (search rules) c.in-Ok.ensures
    c.in-Ok-verify_slices_are_equal_counted.ensures.cost
    (c.in-Ok-verify_slices_are_equal_counted.ensures.ok.0 refl)

pub returns-in-Err : goal.returns-in-Err
returns-in-Err c =
    let h = parts_of c.args.self.now in
    let most = c.args.max_iterations in
    let fits : nat_lt most (non_zero_u32_get h.iterations) ≡ false = search rules in
    let long : length c.derive.new.out ≡ length h.kept = search rules in
    tests_wrong h c.args.password.now most fits long (search rules) c.in-Ok.ensures
    c.in-Err.ensures.cost (λ same. cc (c.in-Err.ensures.ok.1 same))
