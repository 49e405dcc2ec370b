-- SPDX-License-Identifier: ISC
-- Contexts and keys as plain numbers.
use Rattle.std.specs.Prelude.{◌≡◌, ◌<◌, ◌≤◌, ◌⊎◌, ◌+◌, ◌-◌, ◌*◌, ◌%◌, ◌^◌, ℕ, List, ◌++◌, length}
use Rattle.std.specs.Prelude.{map, take, drop, replicate, Some, None, option_map, unwrap_or}
pub use Rattle.ring.specs.Algorithm.{digest_named}
use Rattle.ring.specs.Algorithm.{block_len, word_count, word_len}
use Rattle.ring.specs.Context.{HasTaken, block_algorithm, block_words, context_algorithm}
use Rattle.ring.specs.Context.{counted_bytes, cut_off, digest_with, filled, message_len}
use Rattle.ring.specs.Context.{pending_len}
use Rattle.ring.specs.Digest.{digest_after, words_after}
use Rattle.ring.specs.Hmac.{signing_algorithm, signing_len, signing_pending, tag_from}
use Rattle.ring.specs.Hmac.{tag_of_inner, tag_with}
use Rattle.ring.specs.KeyBlocks.{inner_block, outer_block}
use Rattle.ring.specs.Padding.{IsWhole}
use Rattle.ring.specs.declared.digest.algorithm.Algorithm.{Algorithm}
use Rattle.ring.specs.declared.digest.block_context.BlockContext.{BlockContext}
use Rattle.ring.specs.declared.digest.context.Context.{Context}
use Rattle.ring.specs.declared.hmac.context.Context.{Context as TagContext}
use Rattle.ring.specs.declared.raw.context.RawContext.{RawContext}
use Rattle.ring.specs.declared.raw.key.RawKey.{RawKey}
use Rattle.ring.specs.declared.raw.tag_context.RawTagContext.{RawTagContext}

-- the bytes of a block of the algorithm of a number, 0 where it names none
unfoldable pub named_block_len : ℕ → ℕ
named_block_len number = unwrap_or (option_map block_len (digest_named number)) 0

-- a number from its lower and its upper 64 bits
abbrev pub joined_halves : (low high : ℕ) → ℕ
joined_halves low high = high * 2 ^ 64 + low

-- the bytes of the blocks that a context's numbers count
abbrev pub completed_len : RawContext → ℕ
completed_len raw = joined_halves raw.completed_low raw.completed_high

-- the bytes of the message that they count, cut off at the greatest that a context counts
abbrev pub raw_message_len : RawContext → ℕ
raw_message_len raw = cut_off (completed_len raw + raw.num_pending)

-- the numbers are no context's: they name no algorithm, or as many pending bytes as a block has
abbrev pub IsNoContext : RawContext → Type 0
IsNoContext raw = named_block_len raw.algorithm ≤ raw.num_pending

-- the numbers are no key's: they name no algorithm
abbrev pub IsNoKey : RawKey → Type 0
IsNoKey raw = digest_named raw.algorithm ≡ None

-- the numbers are no tag context's: the inner ones are no context's, or count less than one block
abbrev pub IsNoTagContext : RawTagContext → Type 0
IsNoTagContext raw =
    IsNoContext raw.inner ⊎ (completed_len raw.inner < named_block_len raw.inner.algorithm)

-- numbers as words of the algorithm's size
abbrev pub raw_words : Algorithm → List ℕ → List ℕ
raw_words a numbers = map (λ n. n % 2 ^ (8 * word_len a)) numbers

-- the words that chain from block to block
abbrev pub raw_chaining : Algorithm → List ℕ → List ℕ
raw_chaining a numbers = take (word_count a) (raw_words a numbers)

-- the numbers are words of the algorithm's size, with no further bit
abbrev pub AreWords : Algorithm → List ℕ → Type 0
AreWords a numbers = raw_words a numbers ≡ numbers

-- the digest of any context's numbers after the further bytes y, which bring their count to n bytes
abbrev pub raw_digest_with : Algorithm → RawContext → List ℕ → ℕ → List ℕ
raw_digest_with a raw y n =
    digest_after a (raw_chaining a raw.words) (take raw.num_pending raw.pending ++ y) n

-- the tag of the message m under the numbers of any key
abbrev pub raw_tag_under : Algorithm → RawKey → List ℕ → List ℕ
raw_tag_under a raw m = tag_from a (raw_chaining a raw.inner) (raw_chaining a raw.outer) m

-- the tag of any tag context's numbers after the further bytes y, which bring their count to n
-- bytes
abbrev pub raw_tag_with : Algorithm → RawTagContext → List ℕ → ℕ → List ℕ
raw_tag_with a raw y n =
    tag_of_inner a (raw_chaining a raw.outer) (raw_digest_with a raw.inner y n)

-- the numbers are those of the context, whatever it holds: they count as it does, and whatever
-- bytes follow, both end in the same digest
pub record AreNumbersOf (raw : RawContext) (c : Context) : Type 0 where
  pub algorithm : digest_named raw.algorithm ≡ Some (context_algorithm c)
  pub pending : raw.num_pending ≡ pending_len c
  pub counted : raw_message_len raw ≡ message_len c
  pub digest : (y : List ℕ) (n : ℕ)
      → raw_digest_with (context_algorithm c) raw y n ≡ digest_with c y n

-- the same of a tag's context
pub record AreNumbersOfTag (raw : RawTagContext) (c : TagContext) : Type 0 where
  pub algorithm : digest_named raw.inner.algorithm ≡ Some (signing_algorithm c)
  pub pending : raw.inner.num_pending ≡ signing_pending c
  pub counted : raw_message_len raw.inner ≡ signing_len c
  pub tag : (y : List ℕ) (n : ℕ) → raw_tag_with (signing_algorithm c) raw y n ≡ tag_with c y n

-- any context's numbers, `old`, became `new` by the bytes x: they count them, and whatever bytes
-- follow, both end in the same digest. Behind the pending bytes stands what stood there in the room
-- that x has filled, and words of the algorithm's size stay such
pub record HasAdded (old new : RawContext) (x : List ℕ) : Type 0 where
  pub algorithm : digest_named new.algorithm ≡ digest_named old.algorithm
  pub pending : new.num_pending ≡ (old.num_pending + length x) % named_block_len old.algorithm
  pub counted : raw_message_len new ≡ cut_off (raw_message_len old + length x)
  pub digest : (a : Algorithm) → digest_named old.algorithm ≡ Some a → (y : List ℕ) (n : ℕ)
      → raw_digest_with a new y n ≡ raw_digest_with a old (x ++ y) n
  pub behind : drop new.num_pending new.pending ≡ drop new.num_pending
      (filled (named_block_len old.algorithm) old.num_pending x old.pending)
  pub sized : (a : Algorithm) → digest_named old.algorithm ≡ Some a → AreWords a old.words
      → AreWords a new.words

-- the same of a tag context's numbers, whose outer words stay
pub record TagHasAdded (old new : RawTagContext) (x : List ℕ) : Type 0 where
  pub inner : HasAdded old.inner new.inner x
  pub outer : new.outer ≡ old.outer
  pub tag : (a : Algorithm) → digest_named old.inner.algorithm ≡ Some a → (y : List ℕ) (n : ℕ)
      → raw_tag_with a new y n ≡ raw_tag_with a old (x ++ y) n

-- the numbers are those of a tag's context that begins under any key's numbers: they count its
-- block, and whatever bytes follow, they end in the tag under its words
pub record HasBegun (key : RawKey) (raw : RawTagContext) : Type 0 where
  pub algorithm : digest_named raw.inner.algorithm ≡ digest_named key.algorithm
  pub pending : raw.inner.num_pending ≡ 0
  pub counted : raw_message_len raw.inner ≡ named_block_len key.algorithm
  pub tag : (a : Algorithm) → digest_named key.algorithm ≡ Some a → (y : List ℕ) (n : ℕ)
      → raw_tag_with a raw y n
      ≡ tag_of_inner a (raw_chaining a key.outer) (digest_after a (raw_chaining a key.inner) y n)

-- the numbers are the state after the whole blocks p
pub record IsRawState (a : Algorithm) (numbers p : List ℕ) : Type 0 where
  pub whole : IsWhole a p
  pub words : take (word_count a) (raw_words a numbers) ≡ words_after a p
  pub spare : drop (word_count a) (raw_words a numbers) ≡ replicate (8 - word_count a) 0

-- a block context has these numbers' words, and counts n bytes
pub record HasNumbers (a : Algorithm) (numbers : List ℕ) (n : ℕ) (b : BlockContext) : Type 0 where
  pub stands : (p : List ℕ) → IsRawState a numbers p → n ≡ cut_off (length p) → HasTaken b p
  pub words : block_words b ≡ raw_chaining a numbers
  pub algorithm : block_algorithm b ≡ a
  pub counted : counted_bytes b ≡ n

-- the numbers are those of a context of the message m under the algorithm a
pub record IsRawContext (raw : RawContext) (a : Algorithm) (m : List ℕ) : Type 0 where
  pub algorithm : digest_named raw.algorithm ≡ Some a
  pub blocks : List ℕ
  pub state : IsRawState a raw.words blocks
  pub count : joined_halves raw.completed_low raw.completed_high ≡ cut_off (length blocks)
  pub partial : raw.num_pending < block_len a
  pub message : m ≡ blocks ++ take raw.num_pending raw.pending

-- the numbers stand for the message m under the algorithm a
unfoldable pub RawStandsFor : RawContext → Algorithm → List ℕ → Type 0
RawStandsFor raw a m = IsRawContext raw a m

-- the numbers are those of a key of the bytes k under the algorithm a
pub record IsRawKey (raw : RawKey) (a : Algorithm) (k : List ℕ) : Type 0 where
  pub algorithm : digest_named raw.algorithm ≡ Some a
  pub inner : IsRawState a raw.inner (inner_block a k)
  pub outer : IsRawState a raw.outer (outer_block a k)

-- the numbers stand for the key k under the algorithm a
unfoldable pub RawKeyStandsFor : RawKey → Algorithm → List ℕ → Type 0
RawKeyStandsFor raw a k = IsRawKey raw a k

-- the numbers are those of a context of the message m under the key k and the algorithm a
pub record IsRawTagContext (raw : RawTagContext) (a : Algorithm) (k m : List ℕ) : Type 0 where
  pub inner : RawStandsFor raw.inner a (inner_block a k ++ m)
  pub outer : IsRawState a raw.outer (outer_block a k)

-- the numbers stand for the message m under the key k and the algorithm a
unfoldable pub RawTagStandsFor : RawTagContext → Algorithm → (k m : List ℕ) → Type 0
RawTagStandsFor raw a k m = IsRawTagContext raw a k m
