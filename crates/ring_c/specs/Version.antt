-- SPDX-License-Identifier: ISC
-- The version of the calls and of the layout of contexts and keys.
use Rattle.std.specs.Prelude.{ℕ, ◌+◌, ◌*◌, ◌^◌}

-- the major number from bit 16 on, the minor one in bits 8 to 15, the patch in the lowest 8, as in
-- c/include/yezdopin.h
abbrev pub YZ_VERSION : ℕ
YZ_VERSION = 0 * 2 ^ 16 + 2 * 2 ^ 8 + 0
