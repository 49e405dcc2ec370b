-- SPDX-License-Identifier: ISC
-- One-time passwords: HOTP (RFC 4226) and TOTP (RFC 6238).
use Rattle.std.specs.Prelude.{◌≡◌, ◌≢◌, ℕ, ◌+◌, ◌-◌, ◌/◌, ◌%◌, ◌^◌, ◌<◌, ◌≤◌, List, [], ◌∷◌}
use Rattle.std.specs.Prelude.{drop, get_or, length, take}
use Rattle.std.specs.Int.{bytes_high_first, from_be_bytes, w32}
use Rattle.ring.specs.Prelude.{hmac_of}
use Rattle.ring.specs.declared.digest.algorithm.Algorithm.{Algorithm}
use Rattle.ring_tokens.specs.declared.otp.Digits.{Digits}
use Rattle.ring_tokens.specs.declared.otp.Digits.TheVariants.{Six, Seven, Eight}

-- Digit, the number of digits (RFC 4226, section 5.3)
abbrev pub digits_of : Digits → ℕ
digits_of Six = 6
digits_of Seven = 7
digits_of Eight = 8

-- DT(String): the low 31 bits of the four bytes at OffsetBits, the low four bits of the last byte
-- (RFC 4226, section 5.3)
abbrev pub dynamic_truncation : List ℕ → ℕ
dynamic_truncation tag =
    from_be_bytes w32 (take 4 (drop (get_or tag (length tag - 1) 0 % 16) tag)) % 2 ^ 31

-- HOTP(K,C) = Truncate(HMAC-SHA-1(K,C)) (RFC 4226, section 5.2), or with another hash (RFC 6238,
-- section 1.2)
abbrev pub hotp_of : Algorithm → (k : List ℕ) → (counter digits : ℕ) → ℕ
hotp_of a k counter digits =
    dynamic_truncation (hmac_of a k (bytes_high_first 8 counter)) % 10 ^ digits

-- a number below 10^8 in eight digits
abbrev pub eight_digits : ℕ → List ℕ
eight_digits n =
    (48 + n / 10000000 % 10) ∷ (48 + n / 1000000 % 10) ∷ (48 + n / 100000 % 10)
    ∷ (48 + n / 10000 % 10) ∷ (48 + n / 1000 % 10) ∷ (48 + n / 100 % 10) ∷ (48 + n / 10 % 10)
    ∷ (48 + n / 1 % 10) ∷ []

-- the password as text, with leading zeros
abbrev pub hotp_text : Algorithm → (k : List ℕ) → (counter : ℕ) → Digits → List ℕ
hotp_text a k counter digits =
    drop (8 - digits_of digits) (eight_digits (hotp_of a k counter (digits_of digits)))

-- the first counter from `first` on and below `past` whose password the text is
pub record IsFound (a : Algorithm) (k : List ℕ) (first past : ℕ) (digits : Digits)
    (text : List ℕ) (found : ℕ) : Type 0 where
  pub from : first ≤ found
  pub within : found < past
  pub is : text ≡ hotp_text a k found digits
  pub least : (c : ℕ) → first ≤ c → c < found → text ≢ hotp_text a k c digits

-- the text is the password of no such counter of 64 bits
abbrev pub IsNotFound : Algorithm → (k : List ℕ) → (first past : ℕ) → Digits
    → (text : List ℕ) → Type 0
IsNotFound a k first past digits text =
    (c : ℕ) → first ≤ c → c < past → c < 2 ^ 64 → text ≢ hotp_text a k c digits

-- T = (Current Unix time - T0) / X with T0 = 0 (RFC 6238, section 4.2)
abbrev pub step_of : (time step : ℕ) → ℕ
step_of time step = time / step

-- the first of the steps that are tried
abbrev pub first_step : (time step back : ℕ) → ℕ
first_step time step back = step_of time step - back

-- the step past the last one
abbrev pub past_step : (time step ahead : ℕ) → ℕ
past_step time step ahead = step_of time step + ahead + 1
