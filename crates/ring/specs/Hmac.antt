-- SPDX-License-Identifier: ISC
-- HMAC (RFC 2104).
use Rattle.std.specs.Prelude.{◌≡◌, ℕ, ◌+◌, List, ◌++◌, length, Option, None, Some}
use Rattle.std.specs.Prelude.{if◌then◌else◌, nat_eq}
use Rattle.ring.specs.Algorithm.{block_len, output_len, row}
use Rattle.ring.specs.Context.{HasTaken, StandsFor, block_words, context_algorithm, digest_with}
use Rattle.ring.specs.Context.{message_len, pending_len, room_of}
use Rattle.ring.specs.Digest.{bytes_of, digest_after, digest_algorithm, digest_of}
use Rattle.ring.specs.KeyBlocks.{inner_block, outer_block}
use Rattle.ring.specs.Table.{sha512_256_row}
use Rattle.ring.specs.declared.digest.algorithm.Algorithm as digest
use Rattle.ring.specs.declared.hmac.key.Algorithm.{Algorithm}
use Rattle.ring.specs.declared.hmac.context.Context.{Context}
use Rattle.ring.specs.declared.hmac.key.Key.{Key}
use Rattle.ring.specs.declared.hmac.context.Tag.{Tag}

-- the tag of the message m under the key k: H(K xor opad, H(K xor ipad, m)) (section 2)
unfoldable pub hmac_of : digest.Algorithm → List ℕ → List ℕ → List ℕ
hmac_of a k m = digest_of a (outer_block a k ++ digest_of a (inner_block a k ++ m))

-- the tag of the inner digest d, where h are the words after the outer block
abbrev pub tag_of_inner : digest.Algorithm → (h d : List ℕ) → List ℕ
tag_of_inner a h d = digest_after a h d (block_len a + output_len a)

-- the tag of the message m, where these are the words after a key's two blocks: any words, also
-- those of no key
abbrev pub tag_from : digest.Algorithm → (inner outer m : List ℕ) → List ℕ
tag_from a inner outer m =
    tag_of_inner a outer (digest_after a inner m (block_len a + length m))

-- the digest algorithm that an HMAC algorithm is built on
abbrev pub hmac_digest : Algorithm → digest.Algorithm
hmac_digest a = a.0

-- the HMAC algorithm over a digest algorithm: over each but SHA-512/256
abbrev pub hmac_over : digest.Algorithm → Option Algorithm
hmac_over a =
    if nat_eq (row a).number sha512_256_row.number then None else Some (record { 0 = a })

-- the digest algorithm of a key
abbrev pub key_algorithm : Key → digest.Algorithm
key_algorithm key = key.inner.algorithm

-- the key stands for the bytes k: it has taken in its two masked blocks
pub record KeyStandsFor (key : Key) (k : List ℕ) : Type 0 where
  pub inner : HasTaken key.inner (inner_block key.inner.algorithm k)
  pub outer : HasTaken key.outer (outer_block key.inner.algorithm k)

-- the words of a key after its inner block, which the message follows
abbrev pub inner_words : Key → List ℕ
inner_words key = block_words key.inner

-- the words of a key after its outer block, which the inner digest follows
abbrev pub outer_words : Key → List ℕ
outer_words key = block_words key.outer

-- the tag of the message m under any key, by its two states
abbrev pub tag_under : Key → List ℕ → List ℕ
tag_under key m = tag_from (key_algorithm key) (inner_words key) (outer_words key) m

-- the digest algorithm of a context
abbrev pub signing_algorithm : Context → digest.Algorithm
signing_algorithm c = context_algorithm c.inner

-- the bytes that a context has counted, the key's block among them
abbrev pub signing_len : Context → ℕ
signing_len c = message_len c.inner

-- the number of the bytes that wait for their block to be full
abbrev pub signing_pending : Context → ℕ
signing_pending c = pending_len c.inner

-- the room in which they wait
abbrev pub signing_room : Context → List ℕ
signing_room c = room_of c.inner

-- the tag of any context after the further bytes y, which bring its count to n bytes
abbrev pub tag_with : Context → List ℕ → ℕ → List ℕ
tag_with c y n =
    tag_of_inner (signing_algorithm c) (block_words c.outer) (digest_with c.inner y n)

-- the context stands for the message m under the key k
pub record TagStandsFor (c : Context) (k m : List ℕ) : Type 0 where
  pub inner : StandsFor c.inner (inner_block (context_algorithm c.inner) k ++ m)
  pub outer : HasTaken c.outer (outer_block (context_algorithm c.inner) k)

-- the digest algorithm of a tag
abbrev pub tag_algorithm : Tag → digest.Algorithm
tag_algorithm t = digest_algorithm t.0

-- the bytes that a tag gives
abbrev pub tag_bytes : Tag → List ℕ
tag_bytes t = bytes_of t.0

-- the tag is that of the message m under the key k, by the digest algorithm a
pub record IsTag (t : Tag) (a : digest.Algorithm) (k m : List ℕ) : Type 0 where
  pub algorithm : tag_algorithm t ≡ a
  pub bytes : tag_bytes t ≡ hmac_of a k m
