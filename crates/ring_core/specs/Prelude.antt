-- SPDX-License-Identifier: ISC
-- The words that most contracts and proofs cite, passed on from one place. SHA-1 names its words as
-- SHA-2 does: those of SHA-1 stand in `Sha1` alone.
pub use Rattle.ring_core.specs.Error.{refused_length}
pub use Rattle.ring_core.specs.Bits.{bit_count, GivesBits, GivesNonZero}
pub use Rattle.ring_core.specs.Bytes.{xor_lists}
pub use Rattle.ring_core.specs.Word.{add_words, more_words, sum_words, ◌⊕◌, complement, shr, rotr}
pub use Rattle.ring_core.specs.Word.{rotl, choose, parity, majority, big_endian, word_at, word_32}
pub use Rattle.ring_core.specs.Word.{low_32}
unfoldable pub use Rattle.ring_core.specs.Lane.{lane}
pub use Rattle.ring_core.specs.Lane.{lane-lt, words_of_lane}
pub use Rattle.ring_core.specs.Kernel.{IsBlockOf}
pub use Rattle.ring_core.specs.Window.{IsWindow, IsBefore, four, sixteen, HoldsSums, IsReady}
pub use Rattle.ring_core.specs.Window.{IsAhead, IsSummed}
unfoldable pub use Rattle.ring_core.specs.Schedule.{listed, listed_at}
pub use Rattle.ring_core.specs.Chunks.{chunk_count, chunk_at, chunks, array_at}
unfoldable pub use Rattle.ring_core.specs.Chunks.{fold_chunks}
pub use Rattle.ring_core.specs.Views.{chunk_items, chunk_total, items_left, chunks_left}
pub use Rattle.ring_core.specs.Cost.{raised_count, compared_pairs, Counts}
unfoldable pub use Rattle.ring_core.specs.Cost.{raised}
pub use Rattle.ring_core.specs.Roots.{is_prime, IsRootFraction}
unfoldable pub use Rattle.ring_core.specs.Roots.{first_primes}
pub use Rattle.ring_core.specs.Sha2.{AreNumbersOf, family_256, family_512, three_rotations}
pub use Rattle.ring_core.specs.Sha2.{two_rotations_and_shift, Σ0, Σ1, σ0, σ1, scheduled, ready_sum}
pub use Rattle.ring_core.specs.Sha2.{scheduled_at, next_word, temp1, temp2, next_variables}
pub use Rattle.ring_core.specs.Sha2.{add_state, block_len, blocks_from, words_32, words_64, Family}
unfoldable pub use Rattle.ring_core.specs.Sha2.{constants_256, constants_512, W, round, rounds_from}
unfoldable pub use Rattle.ring_core.specs.Sha2.{block_step}
pub use Rattle.ring_core.specs.FourWords.{later_four, next_four, older_four, older_sum}
pub use Rattle.ring_core.specs.FourWords.{with_first_two, with_last_two}
pub use Rattle.ring_core.specs.declared.digest.word.lanes.InLanes.{InLanes}
