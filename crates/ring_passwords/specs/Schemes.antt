-- SPDX-License-Identifier: ISC
-- The names of the schemes, as a message has them.
use Rattle.std.specs.Prelude.{ℕ, List, [], ◌∷◌, ◌++◌, codes}
use Rattle.std.specs.List.{flat_map}
use Rattle.ring_password_hash.specs.Scheme.{name_of}
use Rattle.ring_password_hash.specs.declared.scheme.Scheme.{Scheme}
use Rattle.ring_password_hash.specs.declared.scheme.TheConstants.{SCHEMES}

-- the names of schemes, with a comma and a space between two
abbrev pub names_text : List Scheme → List ℕ
names_text [] = []
names_text (k ∷ ks) = name_of k ++ flat_map (λ other. codes ", " ++ name_of other) ks

-- the names of all schemes
abbrev pub schemes_text : List ℕ
schemes_text = names_text SCHEMES
