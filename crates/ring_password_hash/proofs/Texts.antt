-- SPDX-License-Identifier: ISC
-- The bytes that end a number are no digits.
use Rattle.std.proofs.Common.{arith}
use Rattle.ring_text.proofs.Numbers.{IsDigit}

pub not_colon : IsDigit 58 → ⊥
not_colon h = omega arith

pub not_dollar : IsDigit 36 → ⊥
not_dollar h = omega arith

pub not_comma : IsDigit 44 → ⊥
not_comma h = omega arith
