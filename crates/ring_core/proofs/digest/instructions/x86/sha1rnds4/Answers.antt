-- SPDX-License-Identifier: ISC
use Rattle.std.proofs.Common.{refl, slice_index, w32}
use Rattle.ring_core.specs.Instructions.{sha1rnds4}
use Rattle.ring_core.proofs.Sha2Instructions.{word-read}
use Rattle.ring_core.proofs.Sha1Instructions.{rnds4-all}
use Rattle.ring_core.proofs.Vectors.{at_fits}
use Rattle.ring_core.proofs.digest.instructions.x86.sha1rnds4.Goals as goal

pub returns : goal.returns
returns g c =
    let abcd = word-read _ c.to_words.ensures in
    let words = word-read _ c.to_words-2.ensures in
    let k = c.round_constant-k.ensures in
    let w = slice_index c.args.words in
    let v = word-read c.round-v-4.result refl in
    rw c.vector.ensures
    (simp (
      v,
      c.round-v-4.ensures 0 (w 0) (rw (c.plus-4.ensures, k, words 0) refl),
      c.round-v-3.ensures 0 (w 1) (rw (c.plus-3.ensures, k, words 1) refl),
      c.round-v-2.ensures 0 (w 2) (rw (c.plus-2.ensures, k, words 2) refl),
      c.round-v.ensures 0 (w 3) (rw (c.plus.ensures, k, words 3) refl),
      abcd,
    ) (rw (← rnds4-all g.row.I c.args.abcd c.args.words c.requires
    (at_fits w32 c.args.words c.fits-words.1 3))
    (λ _. sha1rnds4 g.row.I c.args.abcd c.args.words)))
