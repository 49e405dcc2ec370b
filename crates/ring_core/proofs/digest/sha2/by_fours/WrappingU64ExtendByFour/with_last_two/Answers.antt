-- SPDX-License-Identifier: ISC
use Rattle.std.proofs.Common.{ℕ, ◌^◌, rules, slice_index}
use Rattle.ring_core.specs.Prelude.{lane}
use Rattle.ring_core.proofs.FourWords.{four_read, plus-none, plus-words}
use Rattle.ring_core.proofs.Mapped.{two_read}
use Rattle.ring_core.proofs.digest.sha2.by_fours.WrappingU64ExtendByFour.with_last_two.Goals as goal

pub returns : goal.returns
unfolding lane
returns c =
    let sigma = two_read c.small_sigma.result (search rules) in
    let half = four_read c.args.half c.fits-half.0 in
    let are = rw (sigma, half) at c.small_sigma.ensures in
    let none = λ (i : ℕ). plus-none (2 ^ 64) (slice_index c.args.half i) in
    rw (plus-words (2 ^ 64), sigma, half)
    (cc (are 0, are 1, none 0, none 1))
