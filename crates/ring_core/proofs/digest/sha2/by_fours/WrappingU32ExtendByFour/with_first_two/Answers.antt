-- SPDX-License-Identifier: ISC
use Rattle.std.proofs.Common.{◌^◌, ℕ, [], ◌∷◌, slice_index}
use Rattle.std.proofs.Math.Nat.{add-mod-mod}
use Rattle.ring_core.specs.Prelude.{family_256, low_32, with_first_two}
use Rattle.ring_core.proofs.FourWords.{four_read, plus-none, plus-words}
use Rattle.ring_core.proofs.digest.sha2.by_fours.WrappingU32ExtendByFour.with_first_two.Goals as goal

pub returns : goal.returns
returns c =
    let older = four_read c.args.older c.fits-older.0 in
    let fourth = four_read c.args.fourth c.fits-fourth.0 in
    let p = λ (i : ℕ). low_32 (slice_index c.args.older i) in
    let w = λ (i : ℕ). low_32 (slice_index c.args.fourth i) in
    rw (plus-words (2 ^ 32), c.small_sigma_1-sigma.ensures, fourth, older)
    (simp (add-mod-mod, plus-none) (λ _. with_first_two family_256
    (p 0 ∷ p 1 ∷ p 2 ∷ p 3 ∷ []) (w 0 ∷ w 1 ∷ w 2 ∷ w 3 ∷ [])))
