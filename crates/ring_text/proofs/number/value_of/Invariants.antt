-- SPDX-License-Identifier: ISC
use Rattle.std.proofs.Common.{◌≡◌, ◌<◌, ◌^◌, take}
use Rattle.std.specs.Str.Parse.{AllDigits, digits_value}
use Rattle.ring_text.proofs.number.value_of.Given as goal

-- the number so far is that of the digits so far
abbrev pub invariant-loop-at : goal.invariant-loop-at
invariant-loop-at l =
    AllDigits 10 l.digits → digits_value 10 l.digits < 2 ^ 64
    → l.value ≡ digits_value 10 (take l.at l.digits)
