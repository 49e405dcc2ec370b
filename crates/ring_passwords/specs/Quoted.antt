-- SPDX-License-Identifier: ISC
-- A word of a call as a message shows it: what Bash reads back as the word, in one line.
use Rattle.std.specs.Prelude.{ℕ, ◌+◌, ◌/◌, ◌%◌, Bool, false, not, ◌&&◌, ◌||◌, nat_le, ◌==◌}
use Rattle.std.specs.Prelude.{List, [], ◌∷◌, ◌++◌, codes, if◌then◌else◌, length}
use Rattle.std.specs.Char.{encode_utf8, is_control}
use Rattle.std.specs.List.{flat_map, list_all}
use Rattle.std.specs.Str.{chars}

abbrev pub is_between : (least most byte : ℕ) → Bool
is_between least most byte = nat_le least byte && nat_le byte most

-- a letter or a digit of ASCII, or one of % + , - . / : = @ _
abbrev pub is_plain : ℕ → Bool
is_plain byte = is_between 97 122 byte || is_between 64 90 byte || is_between 43 58 byte
    || byte == 37 || byte == 61 || byte == 95

-- a backslash, and a byte in three octal digits
abbrev pub escape : ℕ → List ℕ
escape byte = 92 ∷ (48 + byte / 64) ∷ (48 + byte / 8 % 8) ∷ (48 + byte % 8) ∷ []

-- a character between single quotes, or, if it is a control character, its bytes between `$'` and
-- `'`; `behind_control` tells whether the character before it is one
abbrev pub part : (behind_control : Bool) → (character : ℕ) → List ℕ
part behind_control character =
    if is_control character
    then (if behind_control then [] else codes "'$'") ++ flat_map escape (encode_utf8 character)
    else (if behind_control then codes "''" else [])
    ++ (if character == 39 then codes "'\\''" else encode_utf8 character)

abbrev pub parts : (behind_control : Bool) → (characters : List ℕ) → List ℕ
parts behind_control [] = []
parts behind_control (c ∷ cs) = part behind_control c ++ parts (is_control c) cs

-- a word of plain bytes as it is, and any other between single quotes
abbrev pub quoted : (word : List ℕ) → List ℕ
quoted word =
    if not (length word == 0) && list_all is_plain word
    then word
    else codes "'" ++ parts false (chars word) ++ codes "'"
