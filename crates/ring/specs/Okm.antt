-- SPDX-License-Identifier: ISC
-- Outputs that were asked for and not yet given.
use Rattle.std.specs.Prelude.{◌≡◌, ◌↔◌, ℕ, List, Result, length, IfOk, IsOk}
use Rattle.ring_core.specs.declared.error.Unspecified.{Unspecified}
use Rattle.ring.specs.Algorithm.{output_len}
use Rattle.ring.specs.Hkdf.{PrkStandsFor, okm, prk_algorithm}
use Rattle.ring.specs.Limits.{IsInfoWithin}
use Rattle.ring.specs.Pieces.{joined}
use Rattle.ring.specs.declared.digest.algorithm.Algorithm.{Algorithm}
use Rattle.ring.specs.declared.hkdf.key_type.KeyType.{Ghosts}
use Rattle.ring.specs.declared.hkdf.prk.Okm.{Okm}

-- the digest algorithm of its PRK
abbrev pub okm_algorithm : {L : Type 0} {g : Ghosts L} → Okm L g → Algorithm
okm_algorithm o = prk_algorithm o.prk.now

-- the bytes of its info
abbrev pub okm_info_len : {L : Type 0} {g : Ghosts L} → Okm L g → ℕ
okm_info_len o = length (joined o.info.now)

-- the number of bytes that was asked for
abbrev pub okm_asked_len : {L : Type 0} {g : Ghosts L} → Okm L g → ℕ
okm_asked_len o = o.len_cached

-- the value that said so
abbrev pub asked_for : {L : Type 0} {g : Ghosts L} → Okm L g → L
asked_for o = o.len

-- it stands for n bytes of output of the PRK k with this info
pub record OkmStandsFor {L : Type 0} {g : Ghosts L} (o : Okm L g) (k info : List ℕ)
    (n : ℕ) : Type 0 where
  pub prk : PrkStandsFor o.prk.now k
  pub pieces : info ≡ joined o.info.now
  pub asked_len : n ≡ o.len_cached

-- n bytes are filled: exactly the number that was asked for, and every round is within the limit
pub record CanFill (a : Algorithm) (info_len asked_len n : ℕ) : Type 0 where
  pub same_len : n ≡ asked_len
  pub within : IsInfoWithin a info_len n

-- r is a key, a salt or a PRK of the digest algorithm a, made of as many bytes of output as the
-- digests of a have: the rounds are those of the PRK's own algorithm
pub record IsMadeOf {L T : Type 0} {g : Ghosts L} (o : Okm L g) (a : Algorithm)
    (algorithm_of : T → Algorithm)
    (StandsFor : T → List ℕ → Type 0) (r : Result T Unspecified) : Type 0 where
  pub ok : (k info : List ℕ) (n : ℕ) → OkmStandsFor o k info n
      → IfOk r (λ t. StandsFor t (okm (okm_algorithm o) k info (output_len a)))
  pub refused : IsOk r ↔ IsInfoWithin (okm_algorithm o) (okm_info_len o) (output_len a)
  pub algorithm : IfOk r (λ t. algorithm_of t ≡ a)
