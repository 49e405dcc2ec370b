-- SPDX-License-Identifier: ISC
use Rattle.std.proofs.Common.{◌^◌, rules}
use Rattle.ring_core.specs.Prelude.{lane}
use Rattle.ring_core.proofs.FourWords.{four_read, plus-words}
use Rattle.ring_core.proofs.digest.sha2.by_fours.WrappingU64ExtendByFour.older.Goals as goal

pub returns : goal.returns
unfolding lane
returns c =
    let first = four_read c.args.first c.fits-first.0 in
    let second = four_read c.args.second c.fits-second.0 in
    let third = four_read c.args.third c.fits-third.0 in
    let fourth = four_read c.args.fourth c.fits-fourth.0 in
    let sigma = four_read c.small_sigma.result (search rules) in
    let are = rw (sigma, first, second) at c.small_sigma.ensures in
    let plus = plus-words (2 ^ 64) in
    rw (plus, plus, sigma, first, second, third, fourth) (cc (are 0, are 1, are 2, are 3))
