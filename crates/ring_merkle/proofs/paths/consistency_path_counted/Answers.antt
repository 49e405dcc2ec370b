-- SPDX-License-Identifier: ISC
use Rattle.std.proofs.Common.{◌≡◌, ◌+◌, ◌-◌, ◌^◌, ◌<◌, ℕ, Bool, true, false, cond, length, take}
use Rattle.std.proofs.Common.{length-take, arith, rules}
use Rattle.std.specs.Int.{is_power_of_two}
use Rattle.ring_merkle.specs.Consistency.{proof_of}
use Rattle.ring_merkle.proofs.Begun.{left-out}
use Rattle.ring_merkle.proofs.paths.consistency_path_counted.Goals as goal

spent : (b : Bool) (n m l : ℕ) → n - (cond b m 0 + l) ≡ cond b (n - m - l) (n - l)
spent true n m l = omega arith
spent false n m l = omega arith

pub returns-clause-cost : goal.returns-clause-cost
returns-clause-cost c =
    let m = c.args.first_size in
    let xs = c.args.leaves.now in
    let l = c.consistency_len-len.result in
    let pos : 0 < m = omega (arith, c.if-first_size-eq0.false) in
    let fits : length xs < 2 ^ 64 = search rules in
    let whole : m - 1 + 1 ≡ m = omega arith in
    let all = c.consistency_len-len.ensures.len in
    let len : length (take l c.args.out.now) ≡ length (proof_of m xs) =
    omega (arith, all, c.if-len-out.false, length-take l c.args.out.now) in
    rw (
      ← spent (is_power_of_two m) (length xs) m l,
      all,
      ← left-out m xs pos c.if-first_size-leaves.false (omega arith),
    )
    (rw (whole, len) at c.write_proof.ensures.cost)
