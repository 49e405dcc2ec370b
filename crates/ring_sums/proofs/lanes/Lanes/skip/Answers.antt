-- SPDX-License-Identifier: ISC
use Rattle.std.proofs.Common.{◌≤◌, arith, length}
use Rattle.ring_sums.proofs.InLanes.{in-skipped, stepped-all}
use Rattle.ring_sums.proofs.lanes.Lanes.skip.Goals as goal

pub returns-clause-going : goal.returns-clause-going
returns-clause-going g c = λ a readers first.
    let all : length c.args.self.now.lanes.items ≤ c.lanes.i =
    omega (arith, c.lanes-test.false, c.len-i-end.ensures, c.args.self.now.lanes.ok.0) in
    rw c.lanes.invariant.contexts (stepped-all (λ x y s. s.place)
    (λ r x y context. in-skipped) c.lanes.invariant.stepped all first)
