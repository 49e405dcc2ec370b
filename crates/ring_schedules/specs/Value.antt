-- SPDX-License-Identifier: ISC
-- Values of as many bytes as a hash has.
use Rattle.std.specs.Prelude.{ℕ, List, take}
use Rattle.ring_schedules.specs.Hash.{hash_len}
use Rattle.ring_schedules.specs.declared.hash.Hash.{Hash}
use Rattle.ring_schedules.specs.declared.value.HashValue.{HashValue}

-- a secret, a key or the hash of a transcript: its hash, and its bytes
pub record HashBytes : Type 0 where
  pub hash : Hash
  pub bytes : List ℕ

abbrev pub value_of : HashValue → HashBytes
value_of v = record { hash = v.hash; bytes = take (hash_len v.hash) v.room }
