-- SPDX-License-Identifier: ISC
-- A key made one block, and masked (RFC 2104, section 2).
use Rattle.std.specs.Prelude.{ℕ, ◌-◌, List, ◌++◌, length, map, replicate, nat_le, if◌then◌else◌}
use Rattle.ring_core.specs.Word.{◌⊕◌}
use Rattle.ring.specs.Algorithm.{block_len}
use Rattle.ring.specs.Digest.{digest_of}
use Rattle.ring.specs.declared.digest.algorithm.Algorithm.{Algorithm}

-- the key, or its digest where it is longer than a block
unfoldable pub short_key : Algorithm → List ℕ → List ℕ
short_key a k = if nat_le (length k) (block_len a) then k else digest_of a k

-- the key as one block, filled up with zeros (step 1)
unfoldable pub key_block : Algorithm → List ℕ → List ℕ
key_block a k = short_key a k ++ replicate (block_len a - length (short_key a k)) 0

-- each byte xor the mask
abbrev pub masked : ℕ → List ℕ → List ℕ
masked mask bytes = map (λ x. x ⊕ mask) bytes

-- the block before the message: K xor ipad (step 2)
abbrev pub inner_block : Algorithm → List ℕ → List ℕ
inner_block a k = masked 0x36 (key_block a k)

-- the block before the inner digest: K xor opad (step 5)
abbrev pub outer_block : Algorithm → List ℕ → List ℕ
outer_block a k = masked 0x5c (key_block a k)
