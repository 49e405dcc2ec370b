-- SPDX-License-Identifier: ISC
-- The salt of a row.
use Rattle.std.specs.Prelude.{ℕ, List}
use Rattle.ring_password_hash.specs.Salt.{salt_from}
use Rattle.ring_password_hash.specs.Scheme.{salt_encoding_of}
use Rattle.ring_password_hash.specs.Stored.{is_text}
use Rattle.ring_password_hash.specs.declared.scheme.Scheme.{Scheme}

-- the salt that a scheme has of 16 bytes
abbrev pub salt_of : Scheme → (random : List ℕ) → List ℕ
salt_of k random = salt_from (is_text (salt_encoding_of k)) random
