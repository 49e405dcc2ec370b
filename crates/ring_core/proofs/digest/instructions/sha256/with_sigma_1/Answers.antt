-- SPDX-License-Identifier: ISC
use Rattle.std.proofs.Common.{◌^◌, ℕ, [], ◌∷◌, rules, slice_index, w32}
use Rattle.std.proofs.Math.Nat.{mod-eq_of_lt, mod-mod}
use Rattle.ring_core.specs.Prelude.{lane}
use Rattle.ring_core.proofs.FourWords.{four_read}
use Rattle.ring_core.proofs.Sha2Instructions.{sum-low, sum-low-first, sum-low-second}
use Rattle.ring_core.proofs.Vectors.{at_fits}
use Rattle.ring_core.proofs.digest.instructions.sha256.with_sigma_1.Goals as goal

pub returns : goal.returns
unfolding lane
returns c =
    let older = four_read c.args.older c.fits-older.0 in
    let fourth = four_read c.args.fourth c.fits-fourth.0 in
    let two = four_read c.small_sigma.result (search rules) in
    let four = four_read c.small_sigma-2.result (search rules) in
    let p = slice_index c.args.older in
    let s = slice_index c.small_sigma.result in
    let t = slice_index c.small_sigma-2.result in
    let low = λ (i : ℕ). mod-eq_of_lt (at_fits w32 c.args.fourth c.fits-fourth.1 i) in
    let are = rw fourth at c.small_sigma.ensures in
    let are' = rw (older, two) at c.small_sigma-2.ensures in
    let e0 = rw (low 2) at (are 0) in
    let e1 = rw (low 3) at (are 1) in
    let e2 = rw (mod-mod, sum-low (2 ^ 32) (p 0) (s 0) e0) at (are' 2) in
    let e3 = rw (mod-mod, sum-low (2 ^ 32) (p 1) (s 1) e1) at (are' 3) in
    rw (four, older, two, fourth) (λ i. sum-low-first (2 ^ 32) (p 0) (s 0) (t 0) e0 (are' 0) i
    ∷ sum-low-first (2 ^ 32) (p 1) (s 1) (t 1) e1 (are' 1) i
    ∷ sum-low-second (2 ^ 32) (p 2) (s 2) (t 2) (are 2) e2 i
    ∷ sum-low-second (2 ^ 32) (p 3) (s 3) (t 3) (are 3) e3 i ∷ [])
