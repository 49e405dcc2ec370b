-- SPDX-License-Identifier: ISC
-- What it says that a value or its numbers stand for bytes, and the sets of lemmas on numbers that
-- functions name.
use Rattle.std.proofs.lemmas.Grind.{common_steps}
use Rattle.std.proofs.Common.{◌≡◌, ℕ, List, option_map, refl, unwrap_or}
use Rattle.std.proofs.Math.Nat.{mod-eq_of_lt}
use Rattle.std.proofs.lemmas.Option.{same_Some}
use Rattle.ring.specs.Prelude.{Algorithm, Context, IsJoined, IsRawContext, IsRawKey, RawContext}
use Rattle.ring.specs.Prelude.{IsRawTagContext, RawKey, RawKeyStandsFor, RawStandsFor, StandsFor}
use Rattle.ring.specs.Prelude.{RawTagContext, RawTagStandsFor, block_len, digest_named}
use Rattle.ring.specs.Prelude.{named_block_len}
use Rattle.ring.proofs.Rows.{block_len-most}
use Rattle.ring.proofs.lemmas.digest.Finishing.{digest_with-is}
use Rattle.ring.proofs.lemmas.hmac.Keys.{inner_len, length-inner_block, length-outer_block}
use Rattle.ring.proofs.lemmas.hmac.Keys.{outer_taken, tag_from-is, tag_of_inner-is, tag_under-is}
use Rattle.ring.proofs.lemmas.raw.Numbers.{kept, key_block_counted, named_len}
use Rattle.ring_core.proofs.Costs.{raised-raised}
use Rattle.ring.proofs.Sums.{raised_zero}
use Rattle.ring.proofs.lemmas.hmac.Keys.{inner_last}
use Rattle.ring.proofs.lemmas.pbkdf2.Rounds.{is_round-next, round_on-next, round_on-none}

pub stands-is : (c : Context) (m : List ℕ) → StandsFor c m → IsJoined c m
unfolding StandsFor
stands-is c m h = h

pub raw-is : (raw : RawContext) (a : Algorithm) (m : List ℕ) → RawStandsFor raw a m
    → IsRawContext raw a m
unfolding RawStandsFor
raw-is raw a m h = h

pub raw_key-is : (raw : RawKey) (a : Algorithm) (k : List ℕ) → RawKeyStandsFor raw a k
    → IsRawKey raw a k
unfolding RawKeyStandsFor
raw_key-is raw a k h = h

pub raw_tag-is : (raw : RawTagContext) (a : Algorithm) (k m : List ℕ) → RawTagStandsFor raw a k m
    → IsRawTagContext raw a k m
unfolding RawTagStandsFor
raw_tag-is raw a k m h = h

pub named-is : (n : ℕ) → named_block_len n ≡ unwrap_or (option_map block_len (digest_named n)) 0
unfolding named_block_len
named-is n = refl

-- of calls on numbers
pub ruleset laws = (
  common_steps,
  block_len-most,
  inner_last,
  inner_len,
  kept,
  key_block_counted,
  length-inner_block,
  length-outer_block,
  mod-eq_of_lt,
  named-is,
  named_len,
  raised-raised,
  same_Some,
)

-- of what the numbers of a context or a key are
pub ruleset numbers = (common_steps, key_block_counted, named_len, raw-is, raw_key-is, raw_tag-is)

-- of the standard's bytes
pub ruleset bytes = (
  common_steps,
  digest_with-is,
  inner_len,
  outer_taken,
  raw-is,
  raw_key-is,
  raw_tag-is,
  stands-is,
  tag_from-is,
  tag_of_inner-is,
  tag_under-is,
)

-- of loops over rounds
pub ruleset rounds = (common_steps, is_round-next, raised_zero, round_on-next, round_on-none)
