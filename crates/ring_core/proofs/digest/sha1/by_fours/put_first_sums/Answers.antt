-- SPDX-License-Identifier: ISC
use Rattle.std.proofs.Common.{◌≡◌, length, map, refl, rules}
use Rattle.ring_core.specs.Prelude.{low_32}
use Rattle.ring_core.proofs.Schedule.{sums-empty}
use Rattle.ring_core.proofs.digest.sha1.by_fours.put_first_sums.Goals as goal

pub returns : goal.returns
returns c = λ b are.
    let len : length c.args.sums.now ≡ 4 = search rules in
    let s0 = sums-empty (map low_32) c.args.sums.now len in
    let s1 = c.put_sums.ensures b 0 refl (rw are refl) s0 in
    let s2 = c.put_sums-2.ensures b 1 refl (rw are refl) s1 in
    let s3 = c.put_sums-3.ensures b 2 refl (rw are refl) s2 in
    c.put_sums-4.ensures b 3 refl (rw are refl) s3
