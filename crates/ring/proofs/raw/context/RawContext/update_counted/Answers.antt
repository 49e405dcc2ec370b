-- SPDX-License-Identifier: ISC
use Rattle.std.proofs.Common.{◌≤◌, ◌+◌, ◌<◌, ℕ, arith, length}
use Rattle.ring.specs.Prelude.{block_len}
use Rattle.ring_core.proofs.Costs.{raised-none}
use Rattle.std.proofs.Math.Nat.{div-eq_of_lt}
use Rattle.ring.proofs.lemmas.raw.Numbers.{named_len, raw_blocks}
use Rattle.ring.proofs.Rows.{block_len-most}
use Rattle.ring.proofs.Sets.{raw-is}
use Rattle.ring.proofs.raw.context.RawContext.update_counted.Goals as goal

pub returns-then-keep-clause-cost : goal.returns-then-keep-clause-cost
returns-then-keep-clause-cost c = λ done a named.
    let raw = c.args.self.now in
    let n : ℕ = raw.num_pending + length c.args.input.now in
    let below : n < block_len a =
    omega (arith, c.keep.ensures.short.0 done, named_len raw.algorithm a named) in
    grind (arith, div-eq_of_lt below, raised-none)

pub returns-then-keep-clause-cost_of : goal.returns-then-keep-clause-cost_of
returns-then-keep-clause-cost_of c = λ a m h.
    let raw = c.args.self.now in
    let fits : raw.num_pending ≤ length raw.pending =
    omega (arith, (raw-is raw a m h).partial, block_len-most a) in
    let kept = returns-then-keep-clause-cost c c.if-keep.true a (raw-is raw a m h).algorithm in
    grind (arith, raw_blocks raw a m (length c.args.input.now) h fits)

pub returns-else-keep-clause-cost_of : goal.returns-else-keep-clause-cost_of
returns-else-keep-clause-cost_of c = λ a m h.
    let raw = c.args.self.now in
    let fits : raw.num_pending ≤ length raw.pending =
    omega (arith, (raw-is raw a m h).partial, block_len-most a) in
    let run = rw (c.keep.ensures.unchanged c.if-keep.false) at c.run.ensures in
    let cost = run.cost (run.plain.stands a m h).0 a (raw-is raw a m h).algorithm in
    grind (arith, raw_blocks raw a m (length c.args.input.now) h fits)
