-- SPDX-License-Identifier: ISC
use Rattle.std.proofs.Common.{◌^◌, ℕ, [], ◌∷◌, slice_index}
use Rattle.std.proofs.Math.Nat.{add-mod-mod}
use Rattle.ring_core.specs.Prelude.{family_256, low_32, with_last_two}
use Rattle.ring_core.proofs.FourWords.{four_read, plus-none, plus-words}
use Rattle.ring_core.proofs.digest.sha2.by_fours.WrappingU32ExtendByFour.with_last_two.Goals as goal

pub returns : goal.returns
returns c =
    let half = four_read c.args.half c.fits-half.0 in
    let p = λ (i : ℕ). low_32 (slice_index c.args.half i) in
    rw (plus-words (2 ^ 32), c.small_sigma_1-sigma.ensures, half)
    (simp (add-mod-mod, plus-none) (λ _. with_last_two family_256 (p 0 ∷ p 1 ∷ p 2 ∷ p 3 ∷ [])))
