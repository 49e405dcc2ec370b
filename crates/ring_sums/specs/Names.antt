-- SPDX-License-Identifier: ISC
-- Names with their escapes.
use Rattle.std.specs.Prelude.{ℕ, Bool, List, [], ◌∷◌, ◌==◌, ◌||◌, if◌then◌else◌}
use Rattle.std.specs.Prelude.{Option, None, Some, option_and_then, option_map}
use Rattle.std.specs.List.{flat_map, list_any}

-- a backslash, a line feed or a carriage return
abbrev pub is_special : ℕ → Bool
is_special byte = byte == 92 || byte == 10 || byte == 13

abbrev pub needs_escape : List ℕ → Bool
needs_escape name = list_any is_special name

-- a byte of a name: these as a backslash and `\`, `n` or `r`
abbrev pub escaped_byte : ℕ → List ℕ
escaped_byte byte =
    if byte == 92 then 92 ∷ 92 ∷ []
    else if byte == 10 then 92 ∷ 110 ∷ []
    else if byte == 13 then 92 ∷ 114 ∷ []
    else byte ∷ []

abbrev pub escaped : List ℕ → List ℕ
escaped name = flat_map escaped_byte name

-- the byte whose escape has this letter behind the backslash
abbrev pub unescaped_byte : (letter : ℕ) → Option ℕ
unescaped_byte letter =
    if letter == 92 then Some 92
    else if letter == 110 then Some 10
    else if letter == 114 then Some 13
    else None

-- a byte, if there is one, before a name, if there is one
abbrev pub before : Option ℕ → Option (List ℕ) → Option (List ℕ)
before byte name = option_and_then (λ b. option_map (λ bytes. b ∷ bytes) name) byte

-- the name that is written so, if each backslash begins an escape
unfoldable pub unescaped : List ℕ → Option (List ℕ)
unescaped [] = Some []
unescaped (byte ∷ []) = if byte == 92 then None else Some (byte ∷ [])
unescaped (byte ∷ next ∷ rest) =
    if byte == 92 then before (unescaped_byte next) (unescaped rest)
    else before (Some byte) (unescaped (next ∷ rest))
