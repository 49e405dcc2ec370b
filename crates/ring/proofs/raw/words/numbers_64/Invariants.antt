-- SPDX-License-Identifier: ISC
use Rattle.std.proofs.Common.{◌≡◌, length, take}
use Rattle.ring_core.specs.Prelude.{words_64}
use Rattle.ring.proofs.raw.words.numbers_64.Given as goal

abbrev pub invariant-words : goal.invariant-words
invariant-words l = (length l.numbers ≡ 8) × (take l.i l.numbers ≡ words_64 (take l.i l.words))
