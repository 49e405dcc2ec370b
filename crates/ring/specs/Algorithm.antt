-- SPDX-License-Identifier: ISC
-- The algorithms of the code, by their rows of the standard's table.
use Rattle.std.specs.Prelude.{ℕ, ◌/◌, List, Option, nat_eq, bytes_eq, find}
pub use Rattle.ring.specs.Table.{Row, row_of, algorithms}
use Rattle.ring.specs.declared.digest.algorithm.Algorithm.{Algorithm}

-- an algorithm's row
abbrev pub row : Algorithm → Row
row a = row_of a.id

-- the bytes of a word
abbrev pub word_len : Algorithm → ℕ
word_len a = (row_of a.id).word_len

-- the bytes of a block
abbrev pub block_len : Algorithm → ℕ
block_len a = (row_of a.id).block_len

-- the bytes of the padding's length field (5.1.1, 5.1.2)
abbrev pub length_len : Algorithm → ℕ
length_len a = (row_of a.id).length_len

-- the bytes of a digest
abbrev pub output_len : Algorithm → ℕ
output_len a = (row_of a.id).output_len

-- the bytes of the words that chain from block to block
abbrev pub chaining_len : Algorithm → ℕ
chaining_len a = (row_of a.id).chaining_len

-- the number of the words that chain from block to block
abbrev pub word_count : Algorithm → ℕ
word_count a = chaining_len a / word_len a

-- the most bytes that a message may have: its bits are below 2^64, or below 2^128 for blocks of 128
-- bytes
abbrev pub max_input_len : Algorithm → ℕ
max_input_len a = (row_of a.id).max_input_len

-- the name that Debug prints
abbrev pub name_of : Algorithm → List ℕ
name_of a = (row_of a.id).name

-- the algorithm of a number
abbrev pub digest_named : ℕ → Option Algorithm
digest_named number = find (λ a. nat_eq number (row a).number) algorithms

-- the algorithm of a name
abbrev pub digest_of_name : List ℕ → Option Algorithm
digest_of_name name = find (λ a. bytes_eq name (name_of a)) algorithms

-- the words before its first block
abbrev pub initial_words : Algorithm → List ℕ
initial_words a = (row_of a.id).first_words

-- the words after a block, from the words before it and the block's bytes (6.1.2, 6.2.2, 6.4.2)
abbrev pub block_function : Algorithm → List ℕ → List ℕ → List ℕ
block_function a = (row_of a.id).block_function
