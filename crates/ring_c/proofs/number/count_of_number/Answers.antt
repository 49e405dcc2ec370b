-- SPDX-License-Identifier: ISC
use Rattle.std.proofs.Common.{◌≡◌, ℕ, zero, suc, ap, arith, refl}
use Rattle.std.specs.Prelude.{MatchOption, Option, Some, None}
use Rattle.std.specs.Int.NonZero.{non_zero_u32_get}
use Rattle.std.specs.declared.num.NonZeroU32.{NonZeroU32}
use Rattle.ring_text.proofs.Numbers.{same_count}
use Rattle.ring_c.specs.Number.{count_named}
use Rattle.ring_c.proofs.number.count_of_number.Goals as goal

named_count : (n : ℕ) (count : Option NonZeroU32)
    → MatchOption count (n ≡ 0) (λ c. non_zero_u32_get c ≡ n) → count ≡ count_named n
named_count zero (Some c) is = let some = c.ok in absurd (omega (arith, some, is))
named_count zero None is = refl
named_count (suc n) (Some c) is = ap Some (same_count c _ is)
named_count (suc n) None is = absurd (omega (arith, is))

pub returns : goal.returns
returns c = named_count c.args.number c.new.result c.new.ensures
