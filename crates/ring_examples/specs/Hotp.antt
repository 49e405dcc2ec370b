-- SPDX-License-Identifier: ISC
-- HOTP: one-time passwords by HMAC (RFC 4226).
use Rattle.std.specs.Prelude.{ℕ, List, ◌%◌, ◌^◌, take, drop, get_or}
use Rattle.std.specs.Int.{bytes_high_first, from_be_bytes, w32}
use Rattle.ring.specs.Prelude.{hmac_of}
use Rattle.ring.specs.declared.digest.algorithm.TheConstants.{SHA1_FOR_LEGACY_USE_ONLY}

-- DT(String): the low 31 bits of the four bytes at Offset, the low four bits of the last byte (5.3)
abbrev pub dynamic_truncation : List ℕ → ℕ
dynamic_truncation tag = from_be_bytes w32 (take 4 (drop (get_or tag 19 0 % 16) tag)) % 2 ^ 31

-- HOTP(K, C) = Truncate(HMAC-SHA-1(K, C)), of so many digits (5.2, 5.3)
abbrev pub hotp_of : (key : List ℕ) → (counter digits : ℕ) → ℕ
hotp_of key counter digits =
    dynamic_truncation (hmac_of SHA1_FOR_LEGACY_USE_ONLY key (bytes_high_first 8 counter))
    % 10 ^ digits
