-- SPDX-License-Identifier: ISC
-- The words that most contracts and proofs cite, and the types that they speak of, passed on from
-- one place.
pub use Rattle.ring.specs.Table.{Row, sha1_row}
pub use Rattle.ring.specs.Algorithm.{row_of, row, word_len, block_len, length_len, output_len}
pub use Rattle.ring.specs.Algorithm.{algorithms, digest_named, digest_of_name}
pub use Rattle.ring.specs.Algorithm.{chaining_len, word_count, max_input_len, name_of}
pub use Rattle.ring.specs.Algorithm.{initial_words, block_function}
pub use Rattle.ring.specs.CodeRow.{IsRowOf}
pub use Rattle.ring.specs.Initial.{AreSquareRoots}
pub use Rattle.ring.specs.State.{words, state_word_len, word_bytes, is_state_of, chaining_words}
pub use Rattle.ring.specs.State.{spare_words}
pub use Rattle.ring.specs.Limits.{tag_input_len, first_round_len, next_round_len, max_okm_len}
pub use Rattle.ring.specs.Limits.{first_iterate_len, derive_rounds, max_dk_len, IsMessageWithin}
pub use Rattle.ring.specs.Limits.{IsTagWithin, IsOutputWithin, fits, can_expand, can_derive}
pub use Rattle.ring.specs.Limits.{can_verify, IsInfoWithin, CanDerive, CanVerify, HasLimits}
pub use Rattle.ring.specs.Padding.{IsWhole, padded_with, padded_blocks, zeros_of, tail_of, IsPadded}
unfoldable pub use Rattle.ring.specs.Padding.{padded}
pub use Rattle.ring.specs.Cost.{whole_blocks, last_blocks, key_digest_blocks, key_blocks}
pub use Rattle.ring.specs.Cost.{fill_rounds, fill_blocks, iterate_blocks, derive_blocks}
pub use Rattle.ring.specs.Digest.{blocks_from, digest_algorithm, bytes_of, IsDigest}
unfoldable pub use Rattle.ring.specs.Digest.{words_after, digest_of, digest_after}
pub use Rattle.ring.specs.Context.{cut_off, block_algorithm, counted_bytes, context_algorithm}
pub use Rattle.ring.specs.Context.{pending_bytes, pending_len, message_len, HasTaken, IsJoined}
pub use Rattle.ring.specs.Context.{HasRunBlocks, block_words, digest_with, filled, room_of}
unfoldable pub use Rattle.ring.specs.Context.{StandsFor}
pub use Rattle.ring.specs.Items.{EachItem, EachChange}
pub use Rattle.ring.specs.Pieces.{joined}
unfoldable pub use Rattle.ring.specs.Pieces.{joined_blocks}
pub use Rattle.ring.specs.Receiver.{HasPlaces, KeepsPlaces, Receives, Takes}
pub use Rattle.ring.specs.Each.{message_at, each_blocks, AreDigests, CanDigestEach, HasWords}
pub use Rattle.ring.specs.Each.{digests_of, bytes_of_each, CanWriteEach}
unfoldable pub use Rattle.ring.specs.Each.{words_at}
pub use Rattle.ring.specs.Source.{random_value}
pub use Rattle.ring.specs.KeyBlocks.{masked, inner_block, outer_block}
unfoldable pub use Rattle.ring.specs.KeyBlocks.{short_key, key_block}
pub use Rattle.ring.specs.Lanes.{digest_bytes, CanRunTogether, IsKeyInLane, IsSha2}
pub use Rattle.ring.specs.Hmac.{hmac_digest, key_algorithm, signing_algorithm, signing_len}
pub use Rattle.ring.specs.Hmac.{signing_pending, signing_room, tag_algorithm, tag_bytes}
pub use Rattle.ring.specs.Hmac.{KeyStandsFor}
pub use Rattle.ring.specs.Hmac.{TagStandsFor, IsTag, tag_of_inner, tag_from, inner_words}
pub use Rattle.ring.specs.Hmac.{outer_words, tag_under, tag_with}
pub use Rattle.ring.specs.Hmac.{hmac_over}
unfoldable pub use Rattle.ring.specs.Hmac.{hmac_of}
pub use Rattle.ring.specs.Prepared.{HasKey, HasStart, IsPaddingOf, IsSet, digest_at}
pub use Rattle.ring.specs.Prepared.{prepared_padding}
pub use Rattle.ring.specs.Hkdf.{hkdf_over, hkdf_digest, salt_algorithm, SaltStandsFor}
pub use Rattle.ring.specs.Hkdf.{prk_algorithm, PrkStandsFor}
unfoldable pub use Rattle.ring.specs.Hkdf.{hkdf_t, okm}
pub use Rattle.ring.specs.Okm.{okm_algorithm, okm_asked_len, okm_info_len, asked_for, OkmStandsFor}
pub use Rattle.ring.specs.Okm.{CanFill, IsMadeOf}
pub use Rattle.ring.specs.Pbkdf2.{pbkdf2_over, pbkdf2_digest, IsDerived}
unfoldable pub use Rattle.ring.specs.Pbkdf2.{pbkdf2_t, pbkdf2_u, dk}
pub use Rattle.ring.specs.DeriveEach.{bytes_at, dk_at, derive_blocks_at, derive_each_blocks}
pub use Rattle.ring.specs.DeriveEach.{AreDerived, CanDeriveEach, IsKeyOf, AreKeysOf, AreVerified}
pub use Rattle.ring.specs.DeriveEach.{CanVerifyEach, answer_at}
unfoldable pub use Rattle.ring.specs.DeriveEach.{sum_below}
pub use Rattle.ring.specs.Rounds.{IsRound, AreOfKeys, AreRounds, CanDeriveUnder}
pub use Rattle.ring.specs.Rounds.{AreOutputs, AreStarts, IsOutput, blocks_at, bytes_before}
pub use Rattle.ring.specs.Rounds.{first_blocks, first_message, front, len_before, nth_round}
pub use Rattle.ring.specs.Rounds.{round_at}
unfoldable pub use Rattle.ring.specs.Rounds.{next_round, round_on, rounds_before}
pub use Rattle.ring.specs.Raw.{joined_halves, completed_len, raw_message_len}
pub use Rattle.ring.specs.Raw.{IsNoContext, IsNoKey, IsNoTagContext, raw_words, IsRawState}
pub use Rattle.ring.specs.Raw.{IsRawContext, IsRawKey, IsRawTagContext, AreWords, raw_chaining}
pub use Rattle.ring.specs.Raw.{raw_digest_with, raw_tag_under, raw_tag_with, AreNumbersOf}
pub use Rattle.ring.specs.Raw.{AreNumbersOfTag, HasAdded, HasNumbers, TagHasAdded}
pub use Rattle.ring.specs.Raw.{HasBegun}
unfoldable pub use Rattle.ring.specs.Raw.{named_block_len, RawStandsFor, RawKeyStandsFor}
unfoldable pub use Rattle.ring.specs.Raw.{RawTagStandsFor}
pub use Rattle.ring.specs.Updates.{IsUpdated, AreUpdated, update_blocks, update_each_blocks}
pub use Rattle.ring.specs.Updates.{IsPartway, AreAlike}
pub use Rattle.ring.specs.Gives.{DerivesEach, DerivesKey, VerifiesEach, VerifiesKey}
pub use Rattle.ring.specs.Gives.{DigestsEach, FinishesDigest, FinishesTag, RawFinishes}
pub use Rattle.ring.specs.Gives.{RawTagFinishes, RawTagUpdates, RawUpdates, SignsMessage}
pub use Rattle.ring.specs.Gives.{TagIsUpdated, UpdatesEach, VerifiesTag}
pub use Rattle.ring_core.specs.Cost.{Counts, compared_pairs}
unfoldable pub use Rattle.ring_core.specs.Cost.{raised}
pub use Rattle.ring.specs.declared.digest.algorithm.Algorithm.{Algorithm}
pub use Rattle.ring.specs.declared.digest.algorithm.AlgorithmId.{AlgorithmId}
pub use Rattle.ring.specs.declared.digest.algorithm.AlgorithmId.TheVariants.{Sha1, Sha256}
pub use Rattle.ring.specs.declared.digest.algorithm.TheConstants.{SHA1_FOR_LEGACY_USE_ONLY, SHA256}
pub use Rattle.ring.specs.declared.digest.algorithm.TheConstants.{SHA384, SHA512, SHA512_256}
pub use Rattle.ring.specs.declared.digest.dynstate.DynState.{DynState}
pub use Rattle.ring.specs.declared.digest.dynstate.DynState.TheVariants.{As32, As64}
pub use Rattle.ring.specs.declared.digest.dynstate.Output.{Output}
pub use Rattle.ring.specs.declared.digest.block_context.BlockContext.{BlockContext}
pub use Rattle.ring.specs.declared.digest.context.Context.{Context}
pub use Rattle.ring.specs.declared.digest.block_context.Digest.{Digest}
pub use Rattle.ring.specs.declared.hmac.key.Key.{Key}
pub use Rattle.ring.specs.declared.hmac.context.Tag.{Tag}
pub use Rattle.ring.specs.declared.pbkdf2.rounds.Derivation.{Derivation}
pub use Rattle.ring.specs.declared.pbkdf2.rounds.Round.{Round}
pub use Rattle.ring.specs.declared.raw.context.RawContext.{RawContext}
pub use Rattle.ring.specs.declared.raw.key.RawKey.{RawKey}
pub use Rattle.ring.specs.declared.raw.tag_context.RawTagContext.{RawTagContext}
pub use Rattle.ring.specs.declared.hmac.prepared.Starts.{Starts}
