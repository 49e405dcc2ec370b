-- SPDX-License-Identifier: ISC
-- The folder of a file.
use Rattle.std.specs.Prelude.{ℕ, List, [], ◌∷◌, Option, Some, None, codes}
use Rattle.std.specs.Path.{path_parent}

-- a folder by its path, where the empty path is that of the folder that the program runs in
abbrev pub folder_named : Option (List ℕ) → List ℕ
folder_named None = codes "."
folder_named (Some []) = codes "."
folder_named (Some (b ∷ bs)) = b ∷ bs

-- the folder that a path is in
abbrev pub folder_in : List ℕ → List ℕ
folder_in path = folder_named (path_parent path)
