-- SPDX-License-Identifier: ISC
-- A new salt, made of 16 bytes of a source.
use Rattle.std.specs.Prelude.{◌≡◌, ◌/◌, ◌%◌, ◌∷◌, ◌++◌, ℕ, zero, suc, Bool, true, false, List, []}
use Rattle.std.specs.Prelude.{codes, length, slice_index}
use Rattle.std.specs.Int.{from_be_bytes, w128}
use Rattle.ring_password_hash.specs.Scheme.{salt_encoding_of}
use Rattle.ring_password_hash.specs.Stored.{is_text}
use Rattle.ring_password_hash.specs.declared.salt.Salt.{Salt}
use Rattle.ring_password_hash.specs.declared.salt.Salt.TheVariants.{Text, Bytes}
use Rattle.ring_password_hash.specs.declared.scheme.Scheme.{Scheme}

-- 62 letters and digits, as in Django's salts
abbrev pub symbols : List ℕ
symbols = codes "abcdefghijklmnopqrstuvwxyzABCDEFGHIJKLMNOPQRSTUVWXYZ0123456789"

-- the lowest digits of n to the base 62, as symbols, the lowest first
unfoldable pub letters : (count n : ℕ) → List ℕ
letters zero n = []
letters (suc count) n = slice_index symbols (n % 62) ∷ letters count (n / 62)

-- a salt of 16 bytes: 22 symbols where it is text
abbrev pub salt_from : (text : Bool) → (bytes : List ℕ) → List ℕ
salt_from true bytes = letters 22 (from_be_bytes w128 bytes)
salt_from false bytes = bytes

abbrev pub salt_bytes : Salt → List ℕ
salt_bytes (Text symbols) = symbols
salt_bytes (Bytes bytes) = bytes

-- the salt of the next 16 bytes of a source
pub record IsNext (k : Scheme) (before after salt : List ℕ) : Type 0 where
  pub bytes : List ℕ
  pub len : length bytes ≡ 16
  pub taken : before ≡ bytes ++ after
  pub is : salt ≡ salt_from (is_text (salt_encoding_of k)) bytes
