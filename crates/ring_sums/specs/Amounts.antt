-- SPDX-License-Identifier: ISC
-- The text that shows how far a run is.
use Rattle.std.specs.Prelude.{ℕ, ◌+◌, ◌*◌, ◌/◌, ◌%◌, ◌==◌, ◌||◌, List, [], ◌∷◌, ◌++◌, codes}
use Rattle.std.specs.Prelude.{decimal, if◌then◌else◌, nat_lt}
use Rattle.ring_sums.specs.declared.amounts.Amounts.{Amounts}

-- a number of tenths of a unit, and the unit: `12.3 MB`
abbrev pub in_tenths : ℕ → (unit : List ℕ) → List ℕ
in_tenths n unit = decimal (n / 10) ++ 46 ∷ decimal (n % 10) ++ unit

-- a number of bytes: `999 B`, and from a thousand on in the largest unit of which it has one
abbrev pub amount : ℕ → List ℕ
amount n =
    if nat_lt n 1000 then decimal n ++ codes " B"
    else if nat_lt n 1000000 then in_tenths (n / 100) (codes " kB")
    else if nat_lt n 1000000000 then in_tenths (n / 100000) (codes " MB")
    else if nat_lt n 1000000000000 then in_tenths (n / 100000000) (codes " GB")
    else in_tenths (n / 100000000000) (codes " TB")

abbrev pub two_digits : ℕ → List ℕ
two_digits n = (48 + n / 10) ∷ (48 + n % 10) ∷ []

-- seconds as hours, minutes and seconds: `1:02:03`
abbrev pub clock : ℕ → List ℕ
clock n =
    decimal (n / 3600) ++ 58 ∷ two_digits (n / 60 % 60) ++ 58 ∷ two_digits (n % 60)

-- bytes a second, of so many in so many milliseconds
abbrev pub rate_of : (done millis : ℕ) → ℕ
rate_of done millis = done * 1000 / millis

-- the seconds in which the rest is read, at that rate
abbrev pub time_left : (done left millis : ℕ) → ℕ
time_left done left millis = left * millis / (done * 1000)

-- how much is read, and of how much where the lengths of all files are known
abbrev pub read_text : Amounts → List ℕ
read_text amounts =
    amount amounts.done
    ++ (if amounts.is_open then [] else codes " of " ++ amount (amounts.done + amounts.left))

-- how long it still takes, where that is known
abbrev pub left_text : Amounts → (millis : ℕ) → List ℕ
left_text amounts millis =
    if amounts.is_open || amounts.done == 0 then []
    else codes ", " ++ clock (time_left amounts.done amounts.left millis) ++ codes " left"

-- `1.2 GB of 3.0 GB, 231.4 MB/s, 0:00:07 left`
abbrev pub shown : Amounts → (millis : ℕ) → List ℕ
shown amounts millis =
    read_text amounts ++ codes ", " ++ amount (rate_of amounts.done millis) ++ codes "/s"
    ++ left_text amounts millis
