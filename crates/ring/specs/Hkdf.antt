-- SPDX-License-Identifier: ISC
-- HKDF (RFC 5869).
use Rattle.std.specs.Prelude.{ℕ, zero, suc, List, [], ◌∷◌, ◌++◌, take}
use Rattle.ring.specs.Hmac.{KeyStandsFor, hmac_digest, hmac_of, key_algorithm}
use Rattle.ring.specs.Pieces.{joined_blocks}
use Rattle.ring.specs.declared.digest.algorithm.Algorithm as digest
use Rattle.ring.specs.declared.hkdf.algorithm.Algorithm.{Algorithm}
use Rattle.ring.specs.declared.hmac.key.Algorithm as hmac
use Rattle.ring.specs.declared.hkdf.prk.Prk.{Prk}
use Rattle.ring.specs.declared.hkdf.salt.Salt.{Salt}

-- T(i): T(0) is empty, T(i) is the tag of T(i - 1), the info and the byte i under the PRK k
-- (section 2.3)
unfoldable pub hkdf_t : digest.Algorithm → (k info : List ℕ) → ℕ → List ℕ
hkdf_t a k info zero = []
hkdf_t a k info (suc i) = hmac_of a k (hkdf_t a k info i ++ info ++ suc i ∷ [])

-- OKM: the first n bytes of T(1) || T(2) || .. || T(255), which is all that may be asked for
-- (section 2.3)
unfoldable pub okm : digest.Algorithm → (k info : List ℕ) → ℕ → List ℕ
okm a k info n = take n (joined_blocks (hkdf_t a k info) 255)

-- the digest algorithm that an HKDF algorithm is built on (section 2.1)
abbrev pub hkdf_digest : Algorithm → digest.Algorithm
hkdf_digest a = hmac_digest a.0

-- HKDF over an HMAC algorithm
abbrev pub hkdf_over : hmac.Algorithm → Algorithm
hkdf_over a = record { 0 = a }

-- the digest algorithm of a salt
abbrev pub salt_algorithm : Salt → digest.Algorithm
salt_algorithm salt = key_algorithm salt.0

-- the salt stands for the bytes s
abbrev pub SaltStandsFor : Salt → List ℕ → Type 0
SaltStandsFor salt s = KeyStandsFor salt.0 s

-- the digest algorithm of a PRK
abbrev pub prk_algorithm : Prk → digest.Algorithm
prk_algorithm prk = key_algorithm prk.0

-- the PRK stands for the bytes k
abbrev pub PrkStandsFor : Prk → List ℕ → Type 0
PrkStandsFor prk k = KeyStandsFor prk.0 k
