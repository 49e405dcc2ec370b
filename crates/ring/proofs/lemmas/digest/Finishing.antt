-- SPDX-License-Identifier: ISC
-- How the last blocks make up the padding.
use Rattle.std.proofs.lemmas.Grind.{common_steps}
use Rattle.std.proofs.Common.{◌≡◌, ℕ, ◌+◌, ◌-◌, ◌*◌, ◌^◌, ◌≤◌, IsTrue, List, ◌++◌, length}
use Rattle.std.proofs.Common.{replicate, ap, arith, length-append, min, append_assoc}
use Rattle.std.proofs.Common.{length-take-le, sym, take}
use Rattle.std.proofs.lemmas.List.{take-append-drop, take-append-le}
use Rattle.std.proofs.lemmas.List.Concat.{flat_map-append}
use Rattle.ring.specs.Prelude.{Algorithm, BlockContext, DynState, HasTaken, chaining_words}
use Rattle.ring.specs.Prelude.{digest_of, is_state_of, max_input_len, output_len}
use Rattle.ring.specs.Prelude.{state_word_len, word_bytes, word_count, word_len, words}
use Rattle.ring.specs.Prelude.{words_after}
use Rattle.ring.proofs.lemmas.digest.Outputs.{length-word_bytes}
use Rattle.ring.proofs.Rows.{max_input_len-most, output_len-most, word_count-most}
use Rattle.ring.proofs.lemmas.digest.Tails.{padded-append}
use Rattle.ring.proofs.lemmas.digest.Blocks.{blocks_from-then}
use Rattle.ring.specs.Prelude.{IsWhole, digest_after, initial_words, tail_of}

-- the words that chain write the front
pub front-word_bytes : (a : Algorithm) (ws zeros : List ℕ)
    → length (take (word_count a) ws) ≡ word_count a
    → take (output_len a) (word_bytes (word_len a) ws ++ zeros)
    ≡ take (output_len a) (word_bytes (word_len a) (take (word_count a) ws))
front-word_bytes a ws zeros count =
    grind (
      arith,
      common_steps,
      append_assoc,
      flat_map-append,
      length-word_bytes,
      output_len-most,
      take-append-drop,
      take-append-le,
    )

-- the front of a state's bytes, where h are its chaining words
pub front_of : (out : List ℕ) (s : DynState) (a : Algorithm) (h : List ℕ)
    → out ≡ word_bytes (state_word_len s) (words s) ++ replicate (64 - 8 * state_word_len s) 0
    → length (words s) ≡ 8 → IsTrue (is_state_of a s) → chaining_words a s ≡ h
    → take (output_len a) out ≡ take (output_len a) (word_bytes (word_len a) h)
front_of out s a h ev eight sized ew =
    grind (arith, common_steps, front-word_bytes, length-take-le, word_count-most)

-- the digest of whole blocks and more is that of the rest after their words
pub digest_of-after : (a : Algorithm) (p x : List ℕ) (n : ℕ) → IsWhole a p → length (p ++ x) ≡ n
    → digest_after a (words_after a p) x n ≡ digest_of a (p ++ x)
unfolding digest_of digest_after words_after
digest_of-after a p x n whole long =
    let tail : List ℕ = tail_of a x (length (p ++ x)) in
    cc (long, padded-append a p x whole, blocks_from-then a (initial_words a) p tail whole)

-- the digest of a message m whose last bytes are x, and of the bytes y after it
pub digest_with-is : (a : Algorithm) {h : List ℕ} (p x m y : List ℕ) → IsWhole a p
    → h ≡ words_after a p → m ≡ p ++ x
    → digest_after a h (x ++ y) (length (m ++ y)) ≡ digest_of a (m ++ y)
digest_with-is a p x m y whole eh em =
    let joined : p ++ (x ++ y) ≡ m ++ y = rw em (sym (append_assoc p x y)) in
    cc (eh, joined, digest_of-after a p (x ++ y) (length (m ++ y)) whole (ap length joined))

-- the length of what the block context has taken in and the pending bytes
pub taken_len : (b : BlockContext) (p x : List ℕ) (len : ℕ) → HasTaken b p
    → len ≡ min (b.completed_bytes + length x) (2 ^ 128 - 1)
    → len ≤ max_input_len b.algorithm → length (p ++ x) ≡ len
taken_len b p x len h e most =
    omega (arith, h.count, length-append p x, max_input_len-most b.algorithm)

pub ruleset finish_rules = (common_steps, front_of)
