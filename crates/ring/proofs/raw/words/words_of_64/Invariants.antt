-- SPDX-License-Identifier: ISC
use Rattle.std.proofs.Common.{◌≡◌, ◌%◌, ◌^◌, length, map, take}
use Rattle.ring_core.specs.Prelude.{words_64}
use Rattle.ring.proofs.raw.words.words_of_64.Given as goal

abbrev pub invariant-words : goal.invariant-words
invariant-words l = (length l.words ≡ 8)
    × (words_64 (take l.i l.words) ≡ map (λ n. n % 2 ^ 64) (take l.i l.numbers))
