-- SPDX-License-Identifier: ISC
-- Messages of one digest's length: after the key's block each of them is one block with its padding
-- (RFC 2104, section 2). The keys, the digests and what messages start from, in lanes.
use Rattle.std.specs.Prelude.{◌≡◌, ℕ, ◌+◌, ◌*◌, ◌≤◌, List, ◌∷◌, ◌++◌, IsTrue, drop, get_or}
use Rattle.std.specs.Prelude.{length, replicate}
use Rattle.std.specs.Int.{bytes_high_first}
use Rattle.ring.specs.Algorithm.{block_len, length_len, output_len, word_len}
use Rattle.ring.specs.Digest.{digest_of}
use Rattle.ring.specs.Hmac.{KeyStandsFor}
use Rattle.ring.specs.KeyBlocks.{inner_block}
use Rattle.ring.specs.Lanes.{IsKeyInLane, digest_bytes}
use Rattle.ring.specs.Padding.{zeros_of}
use Rattle.ring.specs.State.{is_state_of, word_bytes, words}
use Rattle.ring.specs.declared.digest.algorithm.Algorithm.{Algorithm}
use Rattle.ring.specs.declared.digest.dynstate.DynState.{DynState}
use Rattle.ring.specs.declared.hmac.key.Key.{Key}
use Rattle.ring.specs.declared.hmac.prepared.Digests.{Digests}
use Rattle.ring.specs.declared.hmac.prepared.PreparedKeys.{PreparedKeys}
use Rattle.ring.specs.declared.hmac.prepared.Starts.{Starts}

-- the padding: the byte 0x80, zeros, and the bits of the key's block and of the message, high byte
-- first
abbrev pub prepared_padding : Algorithm → List ℕ
prepared_padding a =
    0x80 ∷ replicate (zeros_of a (output_len a)) 0
    ++ bytes_high_first (length_len a) (8 * (block_len a + output_len a))

-- sixteen words of w bits have room for a digest of k words, and past it they are its padding
pub record IsPaddingOf (a : Algorithm) (w k : ℕ) (padding : List ℕ) : Type 0 where
  pub bits : w ≡ 8 * word_len a
  pub digest : output_len a ≡ k * word_len a
  pub room : k ≤ 8
  pub sixteen : length padding ≡ 16
  pub bytes : word_bytes (word_len a) (drop k padding) ≡ prepared_padding a

module _ {H States : Type 0} where
  -- the digest in a lane, whose words the function reads
  abbrev pub digest_at : Algorithm → (States → List ℕ) → Digests H States → List ℕ
  digest_at a lane digests = digest_bytes a (lane digests.words)

  -- the key in the lane is that of the bytes k
  abbrev pub HasKey : Algorithm → (States → List ℕ) → PreparedKeys H States → List ℕ → Type 0
  HasKey a lane keys k = IsKeyInLane a (lane keys.inner) (lane keys.outer) k

-- the lane is set, for the algorithm
pub record IsSet (a : Algorithm) (starts : Starts) (i : ℕ) : Type 0 where
  pub inner : (s : DynState) → IsTrue (is_state_of a (get_or starts.inner i s))
  pub outer : (s : DynState) → IsTrue (is_state_of a (get_or starts.outer i s))
  pub digest : (s : DynState) → IsTrue (is_state_of a (get_or starts.digests i s))

-- a message m starts in the lane, under the key
pub record HasStart (a : Algorithm) (starts : Starts) (i : ℕ) (key : Key) (m : List ℕ)
    : Type 0 where
  pub set : IsSet a starts i
  pub keyed : (s t : DynState) (k : List ℕ) → KeyStandsFor key k
      → IsKeyInLane a (words (get_or starts.inner i s)) (words (get_or starts.outer i t)) k
  pub digest : (s : DynState) (k : List ℕ) → KeyStandsFor key k
      → digest_bytes a (words (get_or starts.digests i s)) ≡ digest_of a (inner_block a k ++ m)
