-- SPDX-License-Identifier: ISC
-- What contexts stand for, and what they count.
use Rattle.std.specs.Prelude.{◌≡◌, ℕ, ◌+◌, ◌-◌, ◌*◌, ◌^◌, min, List, ◌++◌, length, take, drop}
use Rattle.std.specs.Prelude.{replicate, if◌then◌else◌, nat_eq}
use Rattle.ring_core.specs.Cost.{Counts, raised}
use Rattle.ring.specs.Algorithm.{word_count}
use Rattle.ring.specs.Digest.{blocks_from, digest_after, words_after}
use Rattle.ring.specs.Padding.{IsWhole}
use Rattle.ring.specs.State.{chaining_words, spare_words}
use Rattle.ring.specs.declared.digest.algorithm.Algorithm.{Algorithm}
use Rattle.ring.specs.declared.digest.block_context.BlockContext.{BlockContext}
use Rattle.ring.specs.declared.digest.context.Context.{Context}

-- a number of bytes, cut off at the greatest that a context counts
abbrev pub cut_off : ℕ → ℕ
cut_off n = min n (2 ^ 128 - 1)

-- the algorithm of a block context
abbrev pub block_algorithm : BlockContext → Algorithm
block_algorithm b = b.algorithm

-- the bytes that a block context has counted
abbrev pub counted_bytes : BlockContext → ℕ
counted_bytes b = cut_off b.completed_bytes

-- the words that chain from block to block
abbrev pub block_words : BlockContext → List ℕ
block_words b = chaining_words b.algorithm b.state

-- the block context has taken in the whole blocks p
pub record HasTaken (b : BlockContext) (p : List ℕ) : Type 0 where
  pub whole : IsWhole b.algorithm p
  pub words : chaining_words b.algorithm b.state ≡ words_after b.algorithm p
  pub spare : spare_words b.algorithm b.state ≡ replicate (8 - word_count b.algorithm) 0
  pub count : b.completed_bytes ≡ cut_off (length p)

-- the algorithm of a context
abbrev pub context_algorithm : Context → Algorithm
context_algorithm c = c.block.algorithm

-- the bytes that wait for their block to be full
abbrev pub pending_bytes : Context → List ℕ
pending_bytes c = take c.num_pending c.pending

-- their number
abbrev pub pending_len : Context → ℕ
pending_len c = c.num_pending

-- the room in which they wait: these, and whatever stands behind them
abbrev pub room_of : Context → List ℕ
room_of c = c.pending

-- that room once the piece x has filled the block of b bytes of which n wait: where none wait,
-- blocks are run where they stand in x
abbrev pub filled : (b n : ℕ) → (x room : List ℕ) → List ℕ
filled b n x room =
    if nat_eq n 0 then room
    else take n room ++ take (b - n) x ++ drop (n + length (take (b - n) x)) room

-- the bytes of the message that a context has counted
abbrev pub message_len : Context → ℕ
message_len c = cut_off (counted_bytes c.block + c.num_pending)

-- the digest of any context after the further bytes y, which bring its count to n bytes: whatever
-- its words are, also those of no message
abbrev pub digest_with : Context → List ℕ → ℕ → List ℕ
digest_with c y n =
    digest_after (context_algorithm c) (block_words c.block) (pending_bytes c ++ y) n

-- the message m is whole blocks that the context has taken in, and then the pending bytes
pub record IsJoined (c : Context) (m : List ℕ) : Type 0 where
  pub whole : List ℕ
  pub taken : HasTaken c.block whole
  pub message : m ≡ whole ++ pending_bytes c

-- the context stands for the message m
unfoldable pub StandsFor : Context → List ℕ → Type 0
StandsFor c m = IsJoined c m

-- the block context `old` became `new` by the blocks, each of n bytes, at the front of `bytes`, and
-- `left` is what comes after them
pub record HasRunBlocks (n : ℕ) (old new : BlockContext) (bytes left : List ℕ)
    (before after : Counts) : Type 0 where
  pub front : List ℕ
  pub blocks : ℕ
  pub size : length front ≡ blocks * n
  pub parts : front ++ left ≡ bytes
  pub algorithm : new.algorithm ≡ old.algorithm
  pub taken : (p : List ℕ) → HasTaken old p → HasTaken new (p ++ front)
  pub words : (y : List ℕ) → blocks_from new.algorithm (block_words new) y
      ≡ blocks_from old.algorithm (block_words old) (front ++ y)
  pub counted : counted_bytes new ≡ cut_off (counted_bytes old + length front)
  pub cost : after ≡ raised before blocks 0
