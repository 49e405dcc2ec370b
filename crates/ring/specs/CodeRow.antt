-- SPDX-License-Identifier: ISC
-- The code's rows.
use Rattle.std.specs.Prelude.{◌≡◌, ◌-◌, ◌*◌, ◌≤◌, Some, length, replicate, IsTrue}
use Rattle.ring.specs.Algorithm.{block_len, chaining_len, initial_words, length_len, name_of}
use Rattle.ring.specs.Algorithm.{output_len, row, word_count, word_len}
use Rattle.ring.specs.Raw.{digest_named}
use Rattle.ring.specs.State.{chaining_words, is_state_of, spare_words, words}
use Rattle.ring.specs.declared.digest.algorithm.Algorithm.{Algorithm}
use Rattle.ring.specs.declared.digest.algorithm.Row as code

-- the code's row says what the algorithm's row of the table says
pub record IsRowOf (r : code.Row) (a : Algorithm) : Type 0 where
  pub name : r.name.now ≡ name_of a
  pub number : r.number ≡ (row a).number
  pub named : digest_named r.number ≡ Some a
  pub word_len : r.word_len ≡ word_len a
  pub output_len : r.output_len ≡ output_len a
  pub chaining_len : r.chaining_len ≡ chaining_len a
  pub first : chaining_words a r.state ≡ initial_words a
  pub spare : spare_words a r.state ≡ replicate (8 - word_count a) 0
  pub sized : IsTrue (is_state_of a r.state)
  pub count : length (words r.state) ≡ 8
  pub block_len : 16 * r.word_len ≡ block_len a
  pub length_len : 2 * r.word_len ≡ length_len a
  pub few : r.word_len ≤ 8
