-- SPDX-License-Identifier: ISC
use Rattle.std.proofs.Common.{◌^◌, ◌%◌, ◌+◌, ℕ, [], ◌∷◌, ◌∙◌, ap, slice_index}
use Rattle.ring_core.specs.Prelude.{family_256, σ1}
use Rattle.ring_core.proofs.FourWords.{four_read}
use Rattle.ring_core.proofs.Sha2Instructions.{last-first}
use Rattle.ring_core.proofs.digest.instructions.arm.sha256su1.Goals as goal

pub returns : goal.returns
returns c =
    let d = slice_index c.args.older in
    let n = slice_index c.args.third in
    let m = slice_index c.args.fourth in
    let σ = σ1 family_256 in
    let e0 = last-first (2 ^ 32) (d 0) (n 1) (σ (m 2)) in
    let e1 = last-first (2 ^ 32) (d 1) (n 2) (σ (m 3)) in
    let e2 = ap (λ (x : ℕ). ((d 2 + n 3) % 2 ^ 32 + σ x) % 2 ^ 32) e0
    ∙ last-first (2 ^ 32) (d 2) (n 3) _ in
    let e3 = ap (λ (x : ℕ). ((d 3 + m 0) % 2 ^ 32 + σ x) % 2 ^ 32) e1
    ∙ last-first (2 ^ 32) (d 3) (m 0) _ in
    rw (
      c.with_sigma_1.ensures,
      four_read c.args.older c.fits-older.0,
      four_read c.args.third c.fits-third.0,
      four_read c.args.fourth c.fits-fourth.0,
    ) (λ i. e0 i ∷ e1 i ∷ e2 i ∷ e3 i ∷ [])
