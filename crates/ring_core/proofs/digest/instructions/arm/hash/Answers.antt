-- SPDX-License-Identifier: ISC
use Rattle.std.proofs.Common.{ℕ, List, slice_index, w32}
use Rattle.ring_core.specs.Instructions.{sha256hash, sha256hash_step}
use Rattle.ring_core.proofs.Sha2Instructions.{arm-round, round-sum, word-read}
use Rattle.ring_core.proofs.Vectors.{at_fits}
use Rattle.ring_core.proofs.digest.instructions.arm.hash.Goals as goal

pub returns : goal.returns
returns c =
    let abcd = word-read _ c.to_words.ensures in
    let efgh = word-read _ c.to_words-2.ensures in
    let wk = word-read _ c.to_words-3.ensures in
    let step = λ (v : List ℕ) (i : ℕ).
    round-sum sha256hash_step arm-round v (slice_index c.args.wk i)
    (at_fits w32 c.args.wk c.fits-wk.1 i) in
    rw (
      c.round_of_sum-3.ensures,
      c.round_of_sum-2.ensures,
      c.round_of_sum-v.ensures,
      c.round_of_sum.ensures,
    ) (simp (abcd, efgh, wk, step) (λ _. sha256hash c.args.abcd c.args.efgh c.args.wk))
