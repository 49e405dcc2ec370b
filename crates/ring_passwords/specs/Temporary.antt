-- SPDX-License-Identifier: ISC
-- The name of a temporary file, which no store's file has.
use Rattle.std.specs.Prelude.{◌≡◌, ℕ, List, ◌++◌, codes, length}
use Rattle.hex.specs.Hex.{IsBytes, encode_lower}

-- the temporary file of a store's file, by 8 random bytes
abbrev pub temporary_of : (path random : List ℕ) → List ℕ
temporary_of path random = path ++ (codes ".new-" ++ encode_lower random)

-- the path is that of the temporary file of some file
pub record IsTemporary (path : List ℕ) : Type 0 where
  pub file : List ℕ
  pub random : List ℕ
  pub len : length random ≡ 8
  pub bytes : IsBytes random
  pub has : path ≡ temporary_of file random
