-- SPDX-License-Identifier: ISC
-- Lengths in bits.
use Rattle.std.specs.Prelude.{◌≡◌, ℕ, ◌*◌, ◌^◌, ◌≤◌, ◌↔◌, Result, IfErr, IfOk, IsErr}
use Rattle.std.specs.Int.NonZero.{non_zero_u64_get}
use Rattle.std.specs.declared.num.NonZeroU64.{NonZeroU64}
use Rattle.ring_core.specs.declared.bits.BitLength.{BitLength}
use Rattle.ring_core.specs.declared.error.InputTooLongError.{InputTooLongError}
use Rattle.ring_core.specs.declared.error.Unspecified.{Unspecified}
use Rattle.ring_core.specs.Error.{refused_length}

-- how many bits a length has
abbrev pub bit_count : {T : Type 0} → BitLength T → T
bit_count length = length.0

-- the length of so many bytes, refused where w bits do not hold its number
pub record GivesBits (w bytes : ℕ) (result : Result (BitLength ℕ) (InputTooLongError ℕ))
    : Type 0 where
  pub ok : IfOk result (λ length. bit_count length ≡ 8 * bytes)
  pub refused : IsErr result ↔ (2 ^ w ≤ 8 * bytes)
  pub error : IfErr result (λ error. refused_length error ≡ bytes)

-- the same length by a number that is not 0, refused at no bit
pub record GivesNonZero (length : BitLength ℕ) (result : Result (BitLength NonZeroU64) Unspecified)
    : Type 0 where
  pub ok : IfOk result (λ same. non_zero_u64_get (bit_count same) ≡ bit_count length)
  pub refused : IsErr result ↔ (bit_count length ≡ 0)
