-- SPDX-License-Identifier: ISC
-- The text of a new password in the form of another system.
use Rattle.std.specs.Prelude.{◌≡◌, ◌⊎◌, ℕ, List, Option, false, length}
use Rattle.std.specs.Str.{IsAscii}
use Rattle.ring_password_hash.specs.Salt.{salt_from}
use Rattle.ring_password_hash.specs.Scheme.{kept_len_of, salt_encoding_of}
use Rattle.ring_password_hash.specs.Stored.{can_keep, is_text}
use Rattle.ring_password_hash.specs.declared.scheme.Scheme.{Scheme}
use Rattle.ring_password_hash.specs.declared.scheme.Scheme.TheVariants as scheme
use Rattle.ring_passwords.specs.Event.{Event}
use Rattle.ring_passwords.specs.Failure.{IsOfSystem}
use Rattle.ring_passwords.specs.Salt.{IsDrawn, IsNotDrawn}
use Rattle.ring_passwords.specs.declared.failure.Failure.{Failure}
use Rattle.ring_passwords.specs.declared.failure.Failure.TheVariants as failure
use Rattle.ring_passwords.specs.declared.failure.Step.TheVariants.{WriteText}

-- the iterations that OWASP advises for PBKDF2 under HMAC with a scheme's digest
abbrev pub advised : Scheme → ℕ
advised scheme.DjangoSha256 = 600000
advised scheme.DjangoSha1 = 1300000
advised scheme.WerkzeugSha256 = 600000
advised scheme.WerkzeugSha512 = 210000
advised scheme.PhcSha256 = 600000
advised scheme.PhcSha512 = 210000
advised scheme.Mosquitto = 210000
advised scheme.PasslibSha1 = 1300000
advised scheme.PasslibSha256 = 600000
advised scheme.PasslibSha512 = 210000
advised scheme.Postgresql = 600000
advised scheme.WerkzeugSha1 = 1300000

-- the password is its own preparation, where the scheme's system prepares it by SASLprep
abbrev pub IsPrepared : Scheme → (password : List ℕ) → Type 0
IsPrepared scheme.Postgresql password = IsAscii password
IsPrepared _ password = Unit {0}

-- the salt that 16 random bytes make for a scheme
abbrev pub salt_of : Scheme → (random : List ℕ) → List ℕ
salt_of k random = salt_from (is_text (salt_encoding_of k)) random

-- why a password has no text under these random bytes, or it is not written
abbrev pub IsNotEncoded : Scheme → (password random : List ℕ) → Failure → Type 0
IsNotEncoded k password random failed =
    ((failed ≡ failure.NeedsPreparation) × ¬ (IsPrepared k password))
    ⊎ ((failed ≡ failure.TooLong) × (can_keep k (length password) (length (salt_of k random))
    (kept_len_of k) ≡ false))
    ⊎ IsOfSystem WriteText failed

-- no salt is drawn, or it is and no text is made or written
abbrev pub IsNotWritten : {F : Type 0} → (old new : Option (List (Event F))) → Scheme
    → (password : List ℕ) → Failure → Type 0
IsNotWritten old new k password failed =
    IsNotDrawn old new failed
    ⊎ ((salt : List ℕ) × IsDrawn old new salt × IsNotEncoded k password salt failed)
