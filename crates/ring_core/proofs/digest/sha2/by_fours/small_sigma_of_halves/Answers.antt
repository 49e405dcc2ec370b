-- SPDX-License-Identifier: ISC
use Rattle.std.proofs.Common.{ℕ, [], ◌∷◌, map, arith, slice_index, sym, ap, ◌∙◌, mod-lt, pow_pos}
use Rattle.ring_core.specs.Prelude.{low_32, two_rotations_and_shift}
use Rattle.ring_core.proofs.Mapped.{two_read}
use Rattle.ring_core.proofs.Rotation.{doubled-three}
use Rattle.ring_core.proofs.digest.sha2.by_fours.small_sigma_of_halves.Goals as goal

pub returns : goal.returns
returns c =
    let are = ap (map low_32) (two_read c.args.lanes c.fits-lanes.0) in
    let n = c.args.counts in
    let x = λ (i : ℕ). low_32 (slice_index c.args.lanes i) in
    let sigma = λ (i : ℕ).
    doubled-three 32 n.0 n.1 n.2 (x i) (omega arith) (omega arith) (mod-lt _ (pow_pos 32)) in
    rw (c.joined-twice.ensures, c.joined.ensures, c.doubled-copies.ensures (x 0) (x 1) are)
    (λ i. sigma 0 i ∷ sigma 1 i ∷ [])
    ∙ sym (ap (map (two_rotations_and_shift 32 n)) are)
