-- SPDX-License-Identifier: ISC
-- The table of the algorithms (FIPS 180-4, section 1, figure 1, and sections 5.3 and 6), and what
-- the code calls each row.
use Rattle.std.specs.Prelude.{ℕ, ◌-◌, ◌*◌, ◌^◌, List, [], ◌∷◌, codes}
use Rattle.ring.specs.declared.digest.algorithm.Algorithm.{Algorithm}
use Rattle.ring.specs.declared.digest.algorithm.AlgorithmId.{AlgorithmId}
use Rattle.ring.specs.declared.digest.algorithm.AlgorithmId.TheVariants.{Sha1, Sha256, Sha384}
use Rattle.ring.specs.declared.digest.algorithm.AlgorithmId.TheVariants.{Sha512, Sha512_256}
use Rattle.ring.specs.declared.digest.algorithm.TheConstants.{SHA1_FOR_LEGACY_USE_ONLY, SHA256}
use Rattle.ring.specs.declared.digest.algorithm.TheConstants.{SHA384, SHA512, SHA512_256}
use Rattle.ring_core.specs.Sha1 as sha1
use Rattle.ring_core.specs.Sha2 as sha2

-- a row of the table: the algorithm's name and number here, its lengths in bytes, its words before
-- the first block, and its block function, of the words before a block and the block's bytes
pub record Row : Type 0 where
  pub name : List ℕ
  pub number : ℕ
  pub word_len : ℕ
  pub output_len : ℕ
  pub chaining_len : ℕ
  pub first_words : List ℕ
  pub block_function : List ℕ → List ℕ → List ℕ
  pub block_len : ℕ
  pub length_len : ℕ
  pub max_input_len : ℕ

-- a row, with what follows from the length of a word: a block has 16 words, the padding's length
-- field has two, and this field holds the number of a message's bits (5.1.1, 5.1.2, 5.2)
abbrev pub row_by : List ℕ → (number word_len output_len chaining_len : ℕ) → List ℕ
    → (List ℕ → List ℕ → List ℕ) → Row
row_by name number word_len output_len chaining_len first_words block_function = record {
  name = name;
  number = number;
  word_len = word_len;
  output_len = output_len;
  chaining_len = chaining_len;
  first_words = first_words;
  block_function = block_function;
  block_len = 16 * word_len;
  length_len = 2 * word_len;
  max_input_len = 2 ^ (16 * word_len - 3) - 1;
}

-- the words before the first block (5.3.1, 5.3.3, 5.3.4, 5.3.5, 5.3.6.2)
abbrev pub sha1_words : List ℕ
sha1_words = 0x67452301 ∷ 0xefcdab89 ∷ 0x98badcfe ∷ 0x10325476 ∷ 0xc3d2e1f0 ∷ []

abbrev pub sha256_words : List ℕ
sha256_words =
    0x6a09e667 ∷ 0xbb67ae85 ∷ 0x3c6ef372 ∷ 0xa54ff53a
    ∷ 0x510e527f ∷ 0x9b05688c ∷ 0x1f83d9ab ∷ 0x5be0cd19 ∷ []

abbrev pub sha384_words : List ℕ
sha384_words =
    0xcbbb9d5dc1059ed8 ∷ 0x629a292a367cd507 ∷ 0x9159015a3070dd17 ∷ 0x152fecd8f70e5939
    ∷ 0x67332667ffc00b31 ∷ 0x8eb44a8768581511 ∷ 0xdb0c2e0d64f98fa7 ∷ 0x47b5481dbefa4fa4 ∷ []

abbrev pub sha512_words : List ℕ
sha512_words =
    0x6a09e667f3bcc908 ∷ 0xbb67ae8584caa73b ∷ 0x3c6ef372fe94f82b ∷ 0xa54ff53a5f1d36f1
    ∷ 0x510e527fade682d1 ∷ 0x9b05688c2b3e6c1f ∷ 0x1f83d9abfb41bd6b ∷ 0x5be0cd19137e2179 ∷ []

abbrev pub sha512_256_words : List ℕ
sha512_256_words =
    0x22312194fc2bf72c ∷ 0x9f555fa3c84c64c2 ∷ 0x2393b86b6f53b151 ∷ 0x963877195940eabd
    ∷ 0x96283ee2a88effe3 ∷ 0xbe5e1e2553863992 ∷ 0x2b0199fc2c85b8aa ∷ 0x0eb72ddc81c52ca2 ∷ []

-- the five rows (section 1, figure 1; block functions: 6.1.2, 6.2.2, 6.4.2)
abbrev pub sha1_row : Row
sha1_row = row_by (codes "SHA1") 1 4 20 20 sha1_words sha1.block_step

abbrev pub sha256_row : Row
sha256_row = row_by (codes "SHA256") 2 4 32 32 sha256_words (sha2.block_step sha2.family_256)

abbrev pub sha384_row : Row
sha384_row = row_by (codes "SHA384") 3 8 48 64 sha384_words (sha2.block_step sha2.family_512)

abbrev pub sha512_row : Row
sha512_row = row_by (codes "SHA512") 4 8 64 64 sha512_words (sha2.block_step sha2.family_512)

abbrev pub sha512_256_row : Row
sha512_256_row =
    row_by (codes "SHA512_256") 5 8 32 64 sha512_256_words (sha2.block_step sha2.family_512)

-- the row of each algorithm of the code
abbrev pub row_of : AlgorithmId → Row
row_of Sha1 = sha1_row
row_of Sha256 = sha256_row
row_of Sha384 = sha384_row
row_of Sha512 = sha512_row
row_of Sha512_256 = sha512_256_row

-- all algorithms, in the order of their numbers
abbrev pub algorithms : List Algorithm
algorithms = SHA1_FOR_LEGACY_USE_ONLY ∷ SHA256 ∷ SHA384 ∷ SHA512 ∷ SHA512_256 ∷ []
