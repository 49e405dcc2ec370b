-- SPDX-License-Identifier: ISC
-- The numbers by which C names algorithms, beside those of digests, and schemes of password hashes.
use Rattle.std.specs.Prelude.{ℕ, zero, suc, Option, Some, None, if◌then◌else◌, nat_eq, option_map}
use Rattle.std.specs.Option.{option_and_then}
use Rattle.ring.specs.Algorithm.{digest_named}
use Rattle.ring.specs.Hkdf.{hkdf_over}
use Rattle.ring.specs.Hmac.{hmac_over}
use Rattle.ring.specs.Pbkdf2.{pbkdf2_over}
use Rattle.ring.specs.declared.hkdf.algorithm.Algorithm as hkdf
use Rattle.ring.specs.declared.hmac.key.Algorithm as hmac
use Rattle.ring.specs.declared.pbkdf2.algorithm.Algorithm as pbkdf2
use native.Mathlib.Nat.{zero-lt-suc}
use Rattle.std.specs.declared.num.NonZeroU32.{NonZeroU32}
use Rattle.ring_password_hash.specs.declared.scheme.Scheme.{Scheme}
use Rattle.ring_password_hash.specs.declared.scheme.Scheme.TheVariants.{DjangoSha256, DjangoSha1}
use Rattle.ring_password_hash.specs.declared.scheme.Scheme.TheVariants.{WerkzeugSha256}
use Rattle.ring_password_hash.specs.declared.scheme.Scheme.TheVariants.{WerkzeugSha512, PhcSha256}
use Rattle.ring_password_hash.specs.declared.scheme.Scheme.TheVariants.{PhcSha512, Mosquitto}
use Rattle.ring_password_hash.specs.declared.scheme.Scheme.TheVariants.{PasslibSha1, PasslibSha256}
use Rattle.ring_password_hash.specs.declared.scheme.Scheme.TheVariants.{PasslibSha512, Postgresql}
use Rattle.ring_password_hash.specs.declared.scheme.Scheme.TheVariants.{WerkzeugSha1}
use Rattle.ring_tokens.specs.declared.alg.Alg.{Alg}
use Rattle.ring_tokens.specs.declared.alg.Alg.TheVariants.{Hs256, Hs384, Hs512}
use Rattle.ring_tokens.specs.declared.otp.Digits.{Digits}
use Rattle.ring_tokens.specs.declared.otp.Digits.TheVariants.{Six, Seven, Eight}

-- the HMAC algorithm over the digest algorithm of a number
unfoldable pub hmac_named : ℕ → Option hmac.Algorithm
hmac_named number = option_and_then hmac_over (digest_named number)

-- the HKDF algorithm over the digest algorithm of a number
unfoldable pub hkdf_named : ℕ → Option hkdf.Algorithm
hkdf_named number = option_map hkdf_over (hmac_named number)

-- the PBKDF2 algorithm over the digest algorithm of a number
unfoldable pub pbkdf2_named : ℕ → Option pbkdf2.Algorithm
pbkdf2_named number = option_map pbkdf2_over (hmac_named number)

-- the scheme of password hashes of a number
abbrev pub scheme_named : ℕ → Option Scheme
scheme_named number =
    if nat_eq number 1 then Some DjangoSha256
    else if nat_eq number 2 then Some DjangoSha1
    else if nat_eq number 3 then Some WerkzeugSha256
    else if nat_eq number 4 then Some WerkzeugSha512
    else if nat_eq number 5 then Some PhcSha256
    else if nat_eq number 6 then Some PhcSha512
    else if nat_eq number 7 then Some Mosquitto
    else if nat_eq number 8 then Some PasslibSha1
    else if nat_eq number 9 then Some PasslibSha256
    else if nat_eq number 10 then Some PasslibSha512
    else if nat_eq number 11 then Some Postgresql
    else if nat_eq number 12 then Some WerkzeugSha1
    else None

-- the algorithm of signed tokens over the digest algorithm of a number
abbrev pub jws_named : ℕ → Option Alg
jws_named number =
    if nat_eq number 2 then Some Hs256
    else if nat_eq number 3 then Some Hs384
    else if nat_eq number 4 then Some Hs512
    else None

-- how many digits a one-time password has
abbrev pub digits_named : ℕ → Option Digits
digits_named number =
    if nat_eq number 6 then Some Six
    else if nat_eq number 7 then Some Seven
    else if nat_eq number 8 then Some Eight
    else None

-- an iteration count, or the seconds of a step: any number but 0
abbrev pub count_named : ℕ → Option NonZeroU32
count_named zero = None
count_named (suc n) = Some (record { value = suc n; ok = zero-lt-suc n })
