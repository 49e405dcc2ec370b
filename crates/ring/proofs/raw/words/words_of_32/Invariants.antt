-- SPDX-License-Identifier: ISC
use Rattle.std.proofs.Common.{◌≡◌, ◌%◌, ◌^◌, length, map, take}
use Rattle.ring_core.specs.Prelude.{words_32}
use Rattle.ring.proofs.raw.words.words_of_32.Given as goal

abbrev pub invariant-words : goal.invariant-words
invariant-words l = (length l.words ≡ 8)
    × (words_32 (take l.i l.words) ≡ map (λ n. n % 2 ^ 32) (take l.i l.numbers))
