-- SPDX-License-Identifier: ISC
-- What each piece of work gives.
use Rattle.std.specs.Prelude.{ℕ, List, Option, Some, None, if◌then◌else◌, nat_eq}
use Rattle.std.specs.Prelude.{replicate, slice_index}
use Rattle.ring.specs.Digest.{digest_of}
use Rattle.ring.specs.declared.digest.algorithm.Algorithm.{Algorithm}
use Rattle.ring.specs.declared.digest.algorithm.TheConstants.{SHA1_FOR_LEGACY_USE_ONLY, SHA256}
use Rattle.ring.specs.declared.digest.algorithm.TheConstants.{SHA512}
use Rattle.ring_core.specs.Sha1 as sha1
use Rattle.ring_core.specs.Sha2.{block_step, family_256, family_512}
use Rattle.ring_speed.specs.Repeats.{front, message_after, words_after_steps}
use Rattle.ring_speed.specs.declared.blocks.TheConstants.{BLOCK_LEN_32, BLOCK_LEN_64}
use Rattle.ring_speed.specs.declared.hash.Hash.{Hash}
use Rattle.ring_speed.specs.declared.hash.Hash.TheVariants.{Sha1, Sha256, Sha512}
use Rattle.ring_speed.specs.declared.message.TheConstants.{LONG_LEN, SHORT_LEN}
use Rattle.ring_speed.specs.declared.work.Work.{Work}
use Rattle.ring_speed.specs.declared.work.Work.TheVariants.{Blocks, FourContexts}
use Rattle.ring_speed.specs.declared.work.Work.TheVariants.{KitShortDigests, KitLongDigests}
use Rattle.sha1.specs.Sha1.{sha1}
use Rattle.sha2.specs.Sha256.{sha256}
use Rattle.sha2.specs.Sha512.{sha512}

-- the digest algorithm of a hash function
abbrev pub algorithm_of : Hash → Algorithm
algorithm_of Sha1 = SHA1_FOR_LEGACY_USE_ONLY
algorithm_of Sha256 = SHA256
algorithm_of Sha512 = SHA512

-- the digest as the crates `sha1` and `sha2` define it
abbrev pub kit_digest_of : Hash → List ℕ → List ℕ
kit_digest_of Sha1 = sha1
kit_digest_of Sha256 = sha256
kit_digest_of Sha512 = sha512

-- the words after so many steps of two blocks each, from words of 0
abbrev pub block_words : Hash → (steps : ℕ) → List ℕ
block_words Sha1 n = words_after_steps sha1.block_step BLOCK_LEN_32 (replicate 5 0) n
block_words Sha256 n = words_after_steps (block_step family_256) BLOCK_LEN_32 (replicate 8 0) n
block_words Sha512 n = words_after_steps (block_step family_512) BLOCK_LEN_64 (replicate 8 0) n

-- what so many steps of a piece of work give: the first of the words, or the front of the message
abbrev pub given : Work → Hash → (steps : ℕ) → ℕ
given Blocks h n = slice_index (block_words h n) 0
given KitShortDigests h n = front (message_after (kit_digest_of h) SHORT_LEN n)
given KitLongDigests h n = front (message_after (kit_digest_of h) LONG_LEN n)
given FourContexts h n = front (message_after (digest_of (algorithm_of h)) LONG_LEN n)

-- the hash function of a number
abbrev pub hash_named : ℕ → Option Hash
hash_named number =
    if nat_eq number 0 then Some Sha1
    else if nat_eq number 1 then Some Sha256
    else if nat_eq number 2 then Some Sha512
    else None

-- the piece of work of a number
abbrev pub work_named : ℕ → Option Work
work_named number =
    if nat_eq number 1 then Some Blocks
    else if nat_eq number 2 then Some KitShortDigests
    else if nat_eq number 3 then Some KitLongDigests
    else if nat_eq number 4 then Some FourContexts
    else None

-- what a call gives: 0 where a number names nothing
abbrev pub answer : Option Work → Option Hash → (steps : ℕ) → ℕ
answer (Some w) (Some h) n = given w h n
answer w h n = 0
