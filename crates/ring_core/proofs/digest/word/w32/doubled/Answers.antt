-- SPDX-License-Identifier: ISC
use Rattle.std.proofs.Common.{◌≡◌, ℕ, ◌+◌, ◌*◌, ◌/◌, ◌%◌, ◌^◌, List, [], ◌∷◌, ap, arith, ◌∙◌}
use Rattle.std.proofs.Common.{slice_index, w64}
use Rattle.ring_core.proofs.Mapped.{same_two, two_read}
use Rattle.ring_core.proofs.Halves.{both-bytes}
use Rattle.ring_core.proofs.Vectors.{at_fits}
use Rattle.std.specs.Simd.Lanes.{number_l, digits_l}
use Rattle.ring_core.proofs.digest.word.w32.doubled.Goals as goal

pub returns : goal.returns
returns c = λ a b are.
    let lanes = two_read c.args.lanes c.fits-lanes.0 in
    let fits = at_fits w64 c.args.lanes c.fits-lanes.1 in
    let x = slice_index c.args.lanes 0 in
    let y = slice_index c.args.lanes 1 in
    let n = x + 2 ^ 64 * y in
    let read = λ (l : List ℕ). number_l 256 (digits_l 256 16 (number_l (2 ^ 64) l)) in
    let bytes : read c.args.lanes ≡ n =
    ap read lanes ∙ both-bytes x y (fits 0) (fits 1) in
    let is = same_two (rw lanes at are) in
    let third = λ (m : ℕ). m / 2 ^ 32 / 2 ^ 32 % 2 ^ 32 in
    let first : n % 2 ^ 32 ≡ a = omega (arith, is.0) in
    let second : third n ≡ b = omega (arith, is.1, fits 0) in
    let four = λ (m : ℕ). m % 2 ^ 32 ∷ m % 2 ^ 32 ∷ third m ∷ third m ∷ [] in
    ap four bytes ∙ (λ i. first i ∷ first i ∷ second i ∷ second i ∷ [])
