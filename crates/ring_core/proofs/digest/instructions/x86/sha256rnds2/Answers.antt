-- SPDX-License-Identifier: ISC
use Rattle.std.proofs.Common.{ℕ, List, slice_index, w32, refl}
use Rattle.ring_core.specs.Instructions.{intel_round, sha256rnds2}
use Rattle.ring_core.proofs.Sha2Instructions.{intel-round, round-sum, word-read}
use Rattle.ring_core.proofs.Vectors.{at_fits}
use Rattle.ring_core.proofs.digest.instructions.x86.sha256rnds2.Goals as goal

pub returns : goal.returns
returns c =
    let cdgh = word-read _ c.to_words.ensures in
    let abef = word-read _ c.to_words-2.ensures in
    let wk = word-read _ c.to_words-3.ensures in
    let v = word-read c.round_of_sum-v.result refl in
    let step = λ (v : List ℕ) (i : ℕ).
    round-sum intel_round intel-round v (slice_index c.args.wk i)
    (at_fits w32 c.args.wk c.fits-wk.1 i) in
    rw c.vector.ensures
    (simp (v, c.round_of_sum-v.ensures, c.round_of_sum.ensures, cdgh, abef, wk, step)
    (λ _. sha256rnds2 c.args.cdgh c.args.abef c.args.wk))
