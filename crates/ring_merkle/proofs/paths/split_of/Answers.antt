-- SPDX-License-Identifier: ISC
use Rattle.std.proofs.Common.{◌≡◌, ◌-◌, ◌/◌, ◌^◌, ◌<◌, ℕ, zero, suc, max, arith}
use Rattle.ring_merkle.proofs.Trees.{pow-sum}
use Rattle.ring_merkle.proofs.paths.split_of.Goals as goal

below : (n p j : ℕ) → 1 < n → p ≡ 2 ^ j → p / 2 < max 1 (n - n / 2) → p < n
below n p zero lt e high = omega arith
below n p (suc j) lt e high = omega (arith, pow-sum j)

pub returns-clause-below : goal.returns-clause-below
returns-clause-below c =
    let p = c.next_power_of_two.ensures in
    below c.args.len c.next_power_of_two.result p.power.0 c.requires p.power.1 p.upper_bound
