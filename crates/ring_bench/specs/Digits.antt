-- SPDX-License-Identifier: ISC
-- What the table of hex digits has for each byte.
use Rattle.std.specs.Prelude.{ℕ, unwrap_or}
use Rattle.hex.specs.Hex.{hex_digit_value}

-- the value of a hex digit, and 255 for any other byte
abbrev pub value_in_table : ℕ → ℕ
value_in_table byte = unwrap_or (hex_digit_value byte) 255
