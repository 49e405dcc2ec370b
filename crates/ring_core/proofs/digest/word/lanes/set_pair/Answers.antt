-- SPDX-License-Identifier: ISC
use Rattle.std.proofs.Common.{◌≡◌, ◌+◌, ◌%◌, arith}
use Rattle.std.proofs.Math.ListN.{set}
use Rattle.ring_core.proofs.Schedule.{window-set}
use Rattle.ring_core.proofs.digest.word.lanes.set_pair.Goals as goal

pub returns : goal.returns
returns g c = λ f w t ready place first second.
    let window = c.args.window.now in
    let slot = c.args.slot in
    let words = c.args.words in
    let more = window-set f w window slot words.0 ready place first in
    let e : t + 1 + 1 ≡ t + 2 = omega arith in
    let next = (slot + 1) % 16 in
    rw e at (window-set f w (set window slot words.0) next words.1 more (omega arith) second)
