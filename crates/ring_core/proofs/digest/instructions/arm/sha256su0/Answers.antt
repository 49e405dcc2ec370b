-- SPDX-License-Identifier: ISC
use Rattle.std.proofs.Common.{◌^◌, ℕ, [], ◌∷◌, rules, slice_index, w32}
use Rattle.std.proofs.Math.Nat.{mod-eq_of_lt}
use Rattle.ring_core.specs.Prelude.{lane}
use Rattle.ring_core.proofs.FourWords.{four_read}
use Rattle.ring_core.proofs.Sha2Instructions.{low-sum}
use Rattle.ring_core.proofs.Vectors.{at_fits}
use Rattle.ring_core.proofs.digest.instructions.arm.sha256su0.Goals as goal

pub returns : goal.returns
unfolding lane
returns c =
    let first = four_read c.args.first c.fits-first.0 in
    let second = four_read c.args.second c.fits-second.0 in
    let sigma = four_read c.small_sigma.result (search rules) in
    let w = slice_index c.args.first in
    let s = slice_index c.small_sigma.result in
    let low = λ (i : ℕ). mod-eq_of_lt (at_fits w32 c.args.first c.fits-first.1 i) in
    let low-next = mod-eq_of_lt (at_fits w32 c.args.second c.fits-second.1 0) in
    let are = rw (first, second) at c.small_sigma.ensures in
    rw (sigma, first, second) (λ i. low-sum (2 ^ 32) (w 0) (s 0) (rw (low 1) at (are 0)) i
    ∷ low-sum (2 ^ 32) (w 1) (s 1) (rw (low 2) at (are 1)) i
    ∷ low-sum (2 ^ 32) (w 2) (s 2) (rw (low 3) at (are 2)) i
    ∷ low-sum (2 ^ 32) (w 3) (s 3) (rw low-next at (are 3)) i ∷ [])
