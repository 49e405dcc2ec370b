-- SPDX-License-Identifier: ISC
-- Digests of several messages at once.
use Rattle.std.specs.Prelude.{◌≡◌, ℕ, ◌*◌, ◌<◌, List, length, map, sum_by, take}
use Rattle.std.specs.Borrow.{Bor}
use Rattle.std.specs.List.{flat_map}
use Rattle.ring_core.specs.Chunks.{array_at, fold_chunks}
use Rattle.ring.specs.Algorithm.{block_function, block_len, initial_words, output_len}
use Rattle.ring.specs.Algorithm.{word_count}
use Rattle.ring.specs.Digest.{IsDigest, bytes_of, digest_of}
use Rattle.ring.specs.Items.{EachItem}
use Rattle.ring.specs.Limits.{IsMessageWithin}
use Rattle.ring.specs.Padding.{padded, padded_blocks}
use Rattle.ring.specs.declared.digest.algorithm.Algorithm.{Algorithm}
use Rattle.ring.specs.declared.digest.block_context.Digest.{Digest}

-- the message at a place of a list
abbrev pub message_at : List (Bor (List ℕ)) → ℕ → List ℕ
message_at messages k = array_at (map (λ message. message.now) messages) k

-- there are as many digests as messages, and each is that of the message at its place
pub record AreDigests (digests : List Digest) (a : Algorithm) (messages : List (Bor (List ℕ)))
    : Type 0 where
  pub count : length digests ≡ length messages
  pub each : EachItem digests (λ k digest. IsDigest digest a (message_at messages k))

-- n digests can be made of the messages: one of each, and each is within the limit
pub record CanDigestEach (a : Algorithm) (messages : List (Bor (List ℕ))) (n : ℕ) : Type 0 where
  pub count : length messages ≡ n
  pub each : (k : ℕ) → k < length messages → IsMessageWithin a (length (message_at messages k))

-- the digests of the messages, one after another
abbrev pub digests_of : Algorithm → List (Bor (List ℕ)) → List ℕ
digests_of a messages = flat_map (λ message. digest_of a message.now) messages

-- the bytes of digests, one after another
abbrev pub bytes_of_each : List Digest → List ℕ
bytes_of_each digests = flat_map bytes_of digests

-- the digests of the messages fill n bytes, and each message is within the limit
pub record CanWriteEach (a : Algorithm) (messages : List (Bor (List ℕ))) (n : ℕ) : Type 0 where
  pub room : n ≡ length messages * output_len a
  pub each : (k : ℕ) → k < length messages → IsMessageWithin a (length (message_at messages k))

-- the blocks of all padded messages
abbrev pub each_blocks : Algorithm → List (Bor (List ℕ)) → ℕ
each_blocks a messages = sum_by (λ message. padded_blocks a (length message.now)) messages

-- the chaining words after the first k blocks of the padded message m
unfoldable pub words_at : Algorithm → List ℕ → ℕ → List ℕ
words_at a m k = fold_chunks (block_function a) (block_len a) (initial_words a) (padded a m) k

-- eight words, of which those that chain are h
pub record HasWords (a : Algorithm) (h ws : List ℕ) : Type 0 where
  pub chaining : take (word_count a) ws ≡ h
  pub count : length ws ≡ 8
