-- SPDX-License-Identifier: ISC
-- The names as lines.
use Rattle.std.specs.Prelude.{ℕ, zero, suc, Bool, not, ◌&&◌, ◌==◌, nat_le, if◌then◌else◌}
use Rattle.std.specs.Prelude.{List, [], ◌∷◌, ◌++◌, Option, Some, None, codes}
use Rattle.std.specs.List.{flat_map}
use Rattle.ring_store.specs.Store.{names_count, nth_name}
use Rattle.ring_store.specs.declared.store.PasswordStore.{PasswordStore}
use Rattle.hex.specs.Hex.{encode_lower}

-- a byte that is written as it is: no control character and no backslash
abbrev pub is_plain : ℕ → Bool
is_plain byte = nat_le 32 byte && not (byte == 127) && not (byte == 92)

-- a byte of a name: itself, or `\x` and its two digits in lower-case hex
abbrev pub shown : ℕ → List ℕ
shown byte = if is_plain byte then byte ∷ [] else codes "\\x" ++ encode_lower (byte ∷ [])

-- a name, and a line feed
abbrev pub line_of : List ℕ → List ℕ
line_of name = flat_map shown name ++ 10 ∷ []

-- the line of a name, if there is one
abbrev pub line_if : Option (List ℕ) → List ℕ
line_if None = []
line_if (Some name) = line_of name

-- the lines of the first names in their order, as many as are asked for
abbrev pub lines_of : {Z : Type 0} → PasswordStore Z → ℕ → List ℕ
lines_of s zero = []
lines_of s (suc n) = lines_of s n ++ line_if (nth_name s n)

-- the lines of all names
abbrev pub listing_of : {Z : Type 0} → PasswordStore Z → List ℕ
listing_of s = lines_of s (names_count s)
