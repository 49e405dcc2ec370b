-- SPDX-License-Identifier: ISC
-- One-time passwords: why a call is refused, what calls write and find. r is the status.
use Rattle.std.specs.Prelude.{◌≡◌, ◌≢◌, ◌==◌, ◌<◌, ◌^◌, ℕ, ℤ, Bool, false, ◌&&◌, List, Option}
use Rattle.std.specs.Prelude.{Some, None, if◌then◌else◌, is_some, length, nat_le, not}
use Rattle.ring.specs.Hmac.{hmac_digest}
use Rattle.ring.specs.Limits.{fits}
use Rattle.ring.specs.declared.hmac.key.Algorithm.{Algorithm}
use Rattle.ring_tokens.specs.Otp.{IsFound, IsNotFound, hotp_text, step_of}
use Rattle.ring_tokens.specs.declared.otp.Digits.{Digits}
use Rattle.ring_c.specs.Number.{digits_named, hmac_named}
use Rattle.ring_c.specs.Status.{Causes, YZ_OK, YZ_UNKNOWN_ALGORITHM, no_cause, status_of}

-- whether a key may have n bytes: one and more, up to the limit of digests
abbrev pub is_secret_len : Algorithm → ℕ → Bool
is_secret_len a n = nat_le 1 n && fits (hmac_digest a) n

-- the causes for so many digits and a key of so many bytes, where all else is right or not
abbrev pub otp_causes : (digits key_len : ℕ) → (right : Bool) → Algorithm → Causes
otp_causes digits key_len right a =
    record no_cause {
      wrong_length = not (is_some (digits_named digits));
      unspecified = not (right && is_secret_len a key_len);
    }

-- the counter of a time, where a step has a second or more (RFC 6238, section 4.2)
abbrev pub counter_at : (time step : ℕ) → Option ℕ
counter_at time step = if step == 0 then None else Some (step_of time step)

-- the password of the counter, if there is one, is written in as many digits as there is room for
pub record WritesPassword (algorithm : ℕ) (k : List ℕ) (counter : Option ℕ) (old new : List ℕ)
    (r : ℤ) : Type 0 where
  pub ok : (a : Algorithm) (d : Digits) (n : ℕ) → hmac_named algorithm ≡ Some a
      → digits_named (length old) ≡ Some d → counter ≡ Some n → r ≡ YZ_OK
      → new ≡ hotp_text (hmac_digest a) k n d
  pub status : r ≡ status_of YZ_UNKNOWN_ALGORITHM (hmac_named algorithm)
      (otp_causes (length old) (length k) (is_some counter))
  pub unchanged : r ≢ YZ_OK → new ≡ old

-- P holds of the algorithm and the digits, where the numbers name them
abbrev pub IsOfNamed : (algorithm digits : ℕ) → (P : Algorithm → Digits → Type 0) → Type 0
IsOfNamed algorithm digits P =
    (a : Algorithm) (d : Digits) → hmac_named algorithm ≡ Some a → digits_named digits ≡ Some d
    → P a d

-- the first counter of 64 bits from `first` on and below `past` whose password the text is, is
-- written, if these are the ends of a window
pub record FindsPassword (algorithm : ℕ) (k : List ℕ) (is_window : Bool) (first past : ℕ)
    (digits : ℕ) (text : List ℕ) (old new : ℕ) (r : ℤ) : Type 0 where
  pub ok : r ≡ YZ_OK
      → IsOfNamed algorithm digits (λ a d. IsFound (hmac_digest a) k first past d text new)
  pub found : (n : ℕ) → n < 2 ^ 64
      → IsOfNamed algorithm digits (λ a d. IsFound (hmac_digest a) k first past d text n)
      → r ≡ status_of YZ_UNKNOWN_ALGORITHM (hmac_named algorithm)
      (otp_causes digits (length k) is_window)
  pub missed : IsOfNamed algorithm digits (λ a d. IsNotFound (hmac_digest a) k first past d text)
      → r ≡ status_of YZ_UNKNOWN_ALGORITHM (hmac_named algorithm)
      (otp_causes digits (length k) false)
  pub unchanged : r ≢ YZ_OK → new ≡ old
