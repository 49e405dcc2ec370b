-- SPDX-License-Identifier: ISC
use Rattle.std.proofs.Common.{◌≡◌, ◌%◌, ◌^◌, arith, refl}
use Rattle.ring_core.specs.Instructions.{sha1hash}
use Rattle.ring_core.specs.Sha1.{round_function}
use Rattle.ring_core.proofs.Sha2Instructions.{word-read}
use Rattle.ring_core.proofs.digest.instructions.arm.sha1hash.Goals as goal

pub returns : goal.returns
returns g c =
    let abcd = word-read _ c.to_words.ensures in
    let wk = word-read _ c.to_words-2.ensures in
    let e : c.args.e % 2 ^ 32 ≡ c.args.e = omega arith in
    let v = word-read c.step-2.result refl in
    rw c.vector.ensures
    (simp (v, c.step-2.ensures, c.step-v-2.ensures, c.step.ensures, c.step-v.ensures, e, wk, abcd)
    (λ _. sha1hash (round_function g.row.T) c.args.abcd c.args.e c.args.wk))
