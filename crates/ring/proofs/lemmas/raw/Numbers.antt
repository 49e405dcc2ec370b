-- SPDX-License-Identifier: ISC
-- Numbers in the place of contexts and keys.
use Rattle.std.proofs.lemmas.Grind.{common_steps}
use Rattle.std.proofs.Common.{◌≡◌, ◌↔◌, ℕ, ◌+◌, ◌*◌, ◌%◌, ◌^◌, ◌<◌, ◌≤◌, List, [], ◌∷◌, ◌++◌, map}
use Rattle.std.proofs.Common.{length, take, drop, rules, refl, sym, ap, subst, ◌∙◌, ◌-◌}
use Rattle.std.proofs.Common.{arith, length-take-le, Option, Some, option_map, unwrap_or}
use Rattle.std.proofs.Math.Nat.{mod-mod, mod-eq_of_lt}
use Rattle.std.proofs.lemmas.Nat.{mod-mul-add}
use Rattle.std.proofs.lemmas.Option.{same_Some}
use Rattle.std.specs.declared.num.Wrapping.{Wrapping}
use Rattle.ring.specs.Prelude.{Algorithm, AreNumbersOfTag, AreWords, As32, As64, BlockContext}
use Rattle.ring.specs.Prelude.{Counts, DynState, HasAdded, HasNumbers, HasBegun, HasRunBlocks}
use Rattle.ring.specs.Prelude.{HasTaken, filled}
use Rattle.ring.specs.Prelude.{IsRawContext, last_blocks, IsRawState, Key, RawContext, RawKey}
use Rattle.ring.specs.Prelude.{RawStandsFor, RawTagContext, RawTagStandsFor, block_len, block_words}
use Rattle.ring.specs.Prelude.{completed_len, counted_bytes, cut_off, digest_after, digest_named}
use Rattle.ring.specs.Prelude.{inner_words, key_algorithm, max_input_len, named_block_len}
use Rattle.ring.specs.Prelude.{outer_words, raw_chaining, raw_message_len, raw_words}
use Rattle.ring.specs.Prelude.{signing_algorithm, signing_len, signing_pending, state_word_len}
use Rattle.ring.specs.Prelude.{tag_of_inner, tag_with, padded_blocks, whole_blocks, word_len, words}
use Rattle.ring.specs.declared.hmac.context.Context.{Context as TagContext}
use Rattle.ring.proofs.lemmas.digest.Blocks.{whole_mul}
use Rattle.ring.proofs.lemmas.hmac.Keys.{inner_len}
use Rattle.ring.proofs.Lengths.{end_last}
use Rattle.ring.proofs.Rows.{block_len-most, max_input_len-most}
use Rattle.ring.proofs.lemmas.digest.Updating.{counted_moved, digest_moved, more_blocks}
use Rattle.ring.proofs.lemmas.digest.Updating.{pending_moved}

-- numbers cut off twice are cut off once
map_mod : (m : ℕ) (ws : List (Wrapping ℕ))
    → map (λ (n : ℕ). n % m) (map (λ (w : Wrapping ℕ). w.0 % m) ws)
    ≡ map (λ (w : Wrapping ℕ). w.0 % m) ws
map_mod m [] = refl
map_mod m (w ∷ ws) = rw (mod-mod w.0 m, map_mod m ws) refl

-- the numbers of a state fit the size of its words
cut_words : (n : ℕ) (s : DynState) → state_word_len s ≡ n
    → map (λ (m : ℕ). m % 2 ^ (8 * n)) (words s) ≡ words s
cut_words n (As32 ws) h = rw (← h) (map_mod (2 ^ 32) ws)
cut_words n (As64 ws) h = rw (← h) (map_mod (2 ^ 64) ws)

-- the numbers of a block context are its words
pub raw_cut : (b : BlockContext) (numbers : List ℕ) → numbers ≡ words b.state
    → raw_words b.algorithm numbers ≡ words b.state
raw_cut b numbers e =
    rw e (cut_words (word_len b.algorithm) b.state (search (rules, b.sized)))

-- they stand for the same whole blocks
pub raw_taken : (b : BlockContext) (numbers p : List ℕ) → numbers ≡ words b.state → HasTaken b p
    → IsRawState b.algorithm numbers p
raw_taken b numbers p e h =
    let cut = raw_cut b numbers e in
    record { whole = h.whole; words = rw cut h.words; spare = rw cut h.spare }

pub ruleset raw_laws = (raw_taken, raw_cut)

-- the bytes of a block of the algorithm that a number names
pub named_len : (n : ℕ) (a : Algorithm) → digest_named n ≡ Some a → named_block_len n ≡ block_len a
unfolding named_block_len
named_len n a e = ap (λ (o : Option Algorithm). unwrap_or (option_map block_len o) 0) e

-- the numbers are a context's after the blocks that b has taken in
pub record AreOfBlock (raw : RawContext) (b : BlockContext) : Type 0 where
  pub algorithm : digest_named raw.algorithm ≡ Some b.algorithm
  pub words : raw_chaining b.algorithm raw.words ≡ block_words b
  pub counted : cut_off (completed_len raw) ≡ counted_bytes b
  pub partial : raw.num_pending < block_len b.algorithm
  pub fits : raw.num_pending ≤ length raw.pending

-- numbers of a context that moved on by the bytes x
pub added_moved : {old new : RawContext} {b n : BlockContext} {m0 m1 : Counts} (x : List ℕ)
    → AreOfBlock old b → AreOfBlock new n
    → HasRunBlocks (block_len b.algorithm) b n (take old.num_pending old.pending ++ x)
    (take new.num_pending new.pending) m0 m1
    → drop new.num_pending new.pending ≡ drop new.num_pending
    (filled (block_len b.algorithm) old.num_pending x old.pending)
    → AreWords n.algorithm new.words → HasAdded old new x
added_moved {old} {new} {b} {n} x i o j behind sized =
    let before : List ℕ = take old.num_pending old.pending in
    let left : List ℕ = take new.num_pending new.pending in
    let few : new.num_pending ≡ length left = grind (arith, common_steps, o.fits) in
    let short : length left < block_len b.algorithm = grind (arith, few, o.partial, j.algorithm) in
    let size = named_len old.algorithm b.algorithm i.algorithm in
    let counted = counted_moved old.pending old.num_pending x j i.fits few in
    record {
      algorithm = grind (arith, o.algorithm, j.algorithm, i.algorithm);
      pending = rw size (pending_moved old.pending old.num_pending x j i.fits few short);
      counted = omega (arith, counted, i.counted, o.counted);
      digest = λ a named y k.
          let is : b.algorithm ≡ a = same_Some _ a (sym i.algorithm ∙ named) in
          grind (arith, common_steps, digest_moved b n (before ++ x) j y k);
      behind = rw size behind;
      sized = λ a named _.
          let is : b.algorithm ≡ a = same_Some _ a (sym i.algorithm ∙ named) in
          subst (λ z. AreWords z new.words) (j.algorithm ∙ is) sized;
    }

-- numbers of a tag's context that begins under a key
pub has_begun : (key : Key) {raw : RawKey} {n : TagContext} {new : RawTagContext}
    → digest_named raw.algorithm ≡ Some (key_algorithm key)
    → (inner_words key ≡ raw_chaining (key_algorithm key) raw.inner)
    × (outer_words key ≡ raw_chaining (key_algorithm key) raw.outer)
    → signing_algorithm n ≡ key_algorithm key → signing_len n ≡ block_len (key_algorithm key)
    → signing_pending n ≡ 0
    → ((y : List ℕ) (k : ℕ) → tag_with n y k ≡ tag_of_inner (key_algorithm key) (outer_words key)
    (digest_after (key_algorithm key) (inner_words key) y k))
    → AreNumbersOfTag new n → HasBegun raw new
has_begun key {raw} {new = new} named words ea el ep et o =
    let same = sym named in
    record {
      algorithm = cc;
      pending = cc;
      counted = cc (named_len raw.algorithm (key_algorithm key) named);
      tag = λ a is_named y k.
          let is : key_algorithm key ≡ a = same_Some _ a (same ∙ is_named) in
          grind (arith, common_steps, o.tag y k, et y k);
    }

-- the length of a message that numbers stand for
raw_len : (raw : RawContext) (a : Algorithm) (m : List ℕ) (h : IsRawContext raw a m)
    → raw.num_pending ≤ length raw.pending → length m ≡ length h.blocks + raw.num_pending
raw_len raw a m h fits = grind (arith, common_steps, h.message)

-- what numbers count of a message is too long where the message is
pub refused_raw : (raw : RawContext) (a : Algorithm) (m : List ℕ) → RawStandsFor raw a m
    → raw.num_pending ≤ length raw.pending
    → (max_input_len a < raw_message_len raw) ↔ (max_input_len a < length m)
unfolding RawStandsFor
refused_raw raw a m h fits =
    grind (arith, common_steps, raw_len raw a m h fits, h.count, max_input_len-most a)

-- the end of a message has the blocks of its pending bytes with their padding
pub raw_last : (raw : RawContext) (a : Algorithm) (m : List ℕ) → RawStandsFor raw a m
    → raw.num_pending ≤ length raw.pending
    → padded_blocks a raw.num_pending ≡ last_blocks a (length m)
unfolding RawStandsFor
raw_last raw a m h fits =
    let len = raw_len raw a m h fits in
    grind (arith, common_steps, whole_mul, mod-mul-add, end_last a (length m))

-- the blocks that d bytes more complete
pub raw_blocks : (raw : RawContext) (a : Algorithm) (m : List ℕ) (d : ℕ) → RawStandsFor raw a m
    → raw.num_pending ≤ length raw.pending → whole_blocks a (raw.num_pending + d)
    ≡ whole_blocks a (length m + d) - whole_blocks a (length m)
unfolding RawStandsFor
raw_blocks raw a m d h fits =
    more_blocks a h.blocks m raw.num_pending d h.state.whole (raw_len raw a m h fits) h.partial

-- the block context of numbers that stand for a message has taken in its blocks p
pub taken_raw : (raw : RawContext) (a : Algorithm) (p : List ℕ) {b : BlockContext}
    → digest_named raw.algorithm ≡ Some b.algorithm
    → HasNumbers b.algorithm raw.words (completed_len raw) b
    → digest_named raw.algorithm ≡ Some a → IsRawState a raw.words p
    → completed_len raw ≡ cut_off (length p) → HasTaken b p × (b.algorithm ≡ a)
taken_raw raw a p own numbers named state count =
    grind (arith, common_steps, same_Some, numbers.stands p)

-- the numbers of a tag's context count the key's block
pub key_block_counted : (raw : RawTagContext) (a : Algorithm) (k m : List ℕ)
    → RawTagStandsFor raw a k m → named_block_len raw.inner.algorithm ≤ completed_len raw.inner
unfolding RawTagStandsFor RawStandsFor
key_block_counted raw a k m h =
    let size = named_len raw.inner.algorithm a h.inner.algorithm in
    grind (arith, common_steps, inner_len a k m, block_len-most a, mod-eq_of_lt)

-- bytes written past the first n of a list, with those
pub kept : (n : ℕ) (p x c r : List ℕ) → n ≤ length p → c ≡ x
    → take (n + length x) (take n p ++ (c ++ r)) ≡ take n p ++ x
kept n p x c r fits e =
    grind (arith, common_steps, length-take-le)
