-- SPDX-License-Identifier: ISC
-- What a contract sees of a state: chaining words of one of two sizes.
use Rattle.std.specs.Prelude.{ℕ, Bool, nat_eq, List, drop, take}
use Rattle.std.specs.Int.{bytes_high_first}
use Rattle.std.specs.List.{flat_map}
use Rattle.ring_core.specs.Sha2.{words_32, words_64}
use Rattle.ring.specs.Algorithm.{word_count, word_len}
use Rattle.ring.specs.declared.digest.algorithm.Algorithm.{Algorithm}
use Rattle.ring.specs.declared.digest.dynstate.DynState.{DynState}
use Rattle.ring.specs.declared.digest.dynstate.DynState.TheVariants.{As64, As32}

-- the numbers of its eight words
abbrev pub words : DynState → List ℕ
words (As64 ws) = words_64 ws
words (As32 ws) = words_32 ws

-- the bytes in each of its words
abbrev pub state_word_len : DynState → ℕ
state_word_len (As64 ws) = 8
state_word_len (As32 ws) = 4

-- words one after another, each as n bytes, high byte first (3.1)
abbrev pub word_bytes : ℕ → List ℕ → List ℕ
word_bytes n ws = flat_map (bytes_high_first n) ws

-- the state has words of the algorithm's size
abbrev pub is_state_of : Algorithm → DynState → Bool
is_state_of a s = nat_eq (state_word_len s) (word_len a)

-- the words of a state that chain from block to block: SHA-1's are the first five
abbrev pub chaining_words : Algorithm → DynState → List ℕ
chaining_words a s = take (word_count a) (words s)

-- the words of a state past those
abbrev pub spare_words : Algorithm → DynState → List ℕ
spare_words a s = drop (word_count a) (words s)
