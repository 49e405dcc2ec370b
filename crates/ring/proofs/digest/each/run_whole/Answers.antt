-- SPDX-License-Identifier: ISC
use Rattle.std.proofs.Common.{◌≡◌, ◌-◌, ◌*◌, arith}
use Rattle.std.proofs.lemmas.List.{take_rest}
use Rattle.ring.proofs.lemmas.digest.LaneBlocks.{words_at-whole}
use Rattle.ring.proofs.Costs.{raised-none}
use Rattle.ring.proofs.digest.each.run_whole.Goals as goal

pub returns-then-whole-count-clause-cost : goal.returns-then-whole-count-clause-cost
returns-then-whole-count-clause-cost g c =
    let none : c.args.count - c.args.count ≡ 0 = omega arith in
    rw none (raised-none c.args.meter.now)

pub returns-clause-words : goal.returns-clause-words
returns-clause-words g c =
    words_at-whole c.args.algorithm c.args.message.now c.args.count c.requires.whole
    (omega (arith, c.if-whole-count.false)) (take_rest c.args.message.now (g.row.N * c.args.count))
    c.requires.words c.run_blocks.ensures.words
