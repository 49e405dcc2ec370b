-- SPDX-License-Identifier: ISC
use Rattle.std.proofs.Common.{◌≡◌, refl, arith, length, rules}
use Rattle.ring_core.specs.Prelude.{W}
use Rattle.ring_core.proofs.FourWords.{in_sixteen}
use Rattle.ring_core.proofs.Schedule.{sums-empty}
use Rattle.ring_core.proofs.digest.sha2.by_fours.put_first_sums.Goals as goal

pub returns : goal.returns
returns g c = λ b are.
    let words = g.S.FourWords.words in
    let held = in_sixteen (W g.S.One.Sha2.family b) words 0 c.args.words are in
    let len : length c.args.sums.now ≡ 4 = search rules in
    let s0 = sums-empty words c.args.sums.now len in
    let s1 = c.put_sums.ensures b 0 refl (held 0 _ (omega arith)) s0 in
    let s2 = c.put_sums-2.ensures b 1 refl (held 1 _ (omega arith)) s1 in
    let s3 = c.put_sums-3.ensures b 2 refl (held 2 _ (omega arith)) s2 in
    c.put_sums-4.ensures b 3 refl (held 3 _ (omega arith)) s3
