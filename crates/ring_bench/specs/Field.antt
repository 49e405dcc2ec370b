-- SPDX-License-Identifier: ISC
-- What one field of a line says.
use Rattle.std.specs.Prelude.{◌==◌, ◌++◌, ◌+◌, ◌-◌, ◌*◌, ℕ, Bool, List, [], ◌∷◌, Option, None, Some}
use Rattle.std.specs.Prelude.{Result, Ok, Err, if◌then◌else◌, length, nat_le, codes}
use Rattle.std.specs.Option.{option_and_then}
use Rattle.std.specs.List.{slice_split}
use Rattle.std.specs.Str.{bytes_eq}
use Rattle.std.specs.Char.{is_ascii_digit}
use Rattle.hex.specs.Hex.{decode_of}
use Rattle.hex.specs.declared.error.FromHexError.{FromHexError}

infixl 10 ◌>>=◌
abbrev pub ◌>>=◌ : {X Y : Type 0} → Option X → (X → Option Y) → Option Y
found >>= next = option_and_then next found

-- whether a field is this word
unfoldable pub is_word : List ℕ → List ℕ → Bool
is_word field word = bytes_eq field word

-- the value, where there is one
abbrev pub value_of : Result (List ℕ) FromHexError → Option (List ℕ)
value_of (Ok bytes) = Some bytes
value_of (Err e) = None

-- a field of bytes: `-` is no byte, and else it has some hex digits, an even number of them
unfoldable pub bytes_of : List ℕ → Option (List ℕ)
bytes_of field =
    if is_word field (codes "-") then Some []
    else if length field == 0 then None
    else value_of (decode_of field)

abbrev pub is_comma : ℕ → Bool
is_comma b = b == 44

-- the bytes of all parts, joined, where each is an even number of hex digits
abbrev pub parts_bytes : List (List ℕ) → Option (List ℕ)
parts_bytes [] = Some []
parts_bytes (part ∷ parts) = do
  bytes ← value_of (decode_of part)
  others ← parts_bytes parts
  Some (bytes ++ others)

-- PIECES, joined: `-` is no piece, and else parts of hex digits stand with commas between them
unfoldable pub pieces_of : List ℕ → Option (List ℕ)
pieces_of field =
    if is_word field (codes "-") then Some []
    else if length field == 0 then None
    else parts_bytes (slice_split is_comma field)

-- the value of decimal digits, behind digits of the value n
abbrev pub digits_value : ℕ → List ℕ → Option ℕ
digits_value n [] = Some n
digits_value n (b ∷ bs) = if is_ascii_digit b then digits_value (n * 10 + (b - 48)) bs else None

-- a number in decimal, without a sign and without a leading zero
abbrev pub decimal_of : List ℕ → Option ℕ
decimal_of [] = None
decimal_of (b ∷ []) = digits_value 0 (b ∷ [])
decimal_of (b ∷ c ∷ bs) = if b == 48 then None else digits_value 0 (b ∷ c ∷ bs)

-- the number, where it is at most this
abbrev pub up_to : ℕ → Option ℕ → Option ℕ
up_to most None = None
up_to most (Some n) = if nat_le n most then Some n else None

-- the number, where it is at least this
abbrev pub from : ℕ → Option ℕ → Option ℕ
from least None = None
from least (Some n) = if nat_le least n then Some n else None

-- LEN: 0 to 65536
unfoldable pub len_of : List ℕ → Option ℕ
len_of field = up_to 65536 (decimal_of field)

-- ITERATIONS: 1 to 2^32 - 1
unfoldable pub iterations_of : List ℕ → Option ℕ
iterations_of field = from 1 (up_to 4294967295 (decimal_of field))
