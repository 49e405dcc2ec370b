-- SPDX-License-Identifier: ISC
use Rattle.std.proofs.Common.{◌≡◌, ◌<◌, ℕ, ◌*◌, ◌++◌, ◌∙◌, List, [], arith, drop, length}
use Rattle.std.proofs.Common.{refl, take}
use Rattle.std.proofs.lemmas.List.{get_or-take, get_or_append_left}
use Rattle.ring_core.specs.Prelude.{array_at, chunk_at, fold_chunks}
use Rattle.ring.specs.Prelude.{block_function, message_at, word_count}
use Rattle.ring_core.proofs.ChunkFolds.{fold_chunks-none}
use Rattle.ring.proofs.lemmas.digest.LaneBlocks.{chunks-next}
use Rattle.ring.proofs.Costs.{raised-none}
use Rattle.ring.proofs.Sums.{raised-sum}
use Rattle.ring.proofs.digest.lanes.blocks.run_lanes.Goals as goal

pub blocks-2-init : goal.blocks-2-init
blocks-2-init g c =
    let none : g.H.LaneStates.LANES * 0 ≡ 0 = omega arith in
    record {
      words = λ i h below has.
          let step = block_function c.args.algorithm in
          let bytes = g.B.Blocks.bytes c.args.algorithm (message_at c.args.messages.now i) in
          rw (fold_chunks-none step g.row.N h bytes) has;
      spare = λ i h below has.
          refl {a = drop (word_count c.args.algorithm) (g.H.LaneStates.lane i c.args.states.now)};
      cost = rw none (raised-none c.args.meter.now);
    }

pub blocks-2-preserved : goal.blocks-2-preserved
blocks-2-preserved g c =
    let a = c.args.algorithm in
    let bytes = λ (i : ℕ). g.B.Blocks.bytes a (message_at c.args.messages.now i) in
    let lanes = g.H.LaneStates.LANES in
    let k = c.blocks-2.index in
    let put = c.put_blocks.new.blocks in
    let rest = drop c.LANES.result c.blocks-2.blocks in
    let count = c.LANES-in-blocks-2.result in
    let long : length put ≡ lanes =
    omega (arith, c.put_blocks.auto.blocks, c.LANES.ensures, c.requires.most) in
    let blocks = take count (put ++ rest) in
    let is : (i : ℕ) → i < lanes → array_at blocks i ≡ chunk_at g.row.N (bytes i) k =
    λ i below.
    let read : array_at blocks i ≡ array_at put i =
    get_or-take count (put ++ rest) i [] (omega (arith, c.LANES-in-blocks-2.ensures, below))
    ∙ get_or_append_left put rest [] i (omega (arith, long, below)) in
    rw read (c.put_blocks.ensures i (omega (arith, c.requires.lanes, below))) in
    let run = c.run_blocks.ensures in
    let now = λ (i : ℕ) (h : List ℕ). fold_chunks (block_function a) g.row.N h (bytes i) k in
    record {
      words = λ i h below has.
          chunks-next a g.row.N h (bytes i) k (is i below) (run.words a i (now i h)
          c.requires.same below (c.blocks-2.invariant.words i h below has));
      spare = λ i h below has.
          run.spare a i (now i h) c.requires.same below
          (c.blocks-2.invariant.words i h below has)
          ∙ c.blocks-2.invariant.spare i h below has;
      cost = raised-sum _ _ _ c.blocks-2.invariant.cost run.cost (grind arith);
    }

pub returns-clause-words : goal.returns-clause-words
returns-clause-words g c = λ i h below has.
    let end : c.blocks-2.index ≡ c.args.count =
    omega (arith, c.blocks-2.auto.index-end, c.blocks-2-test.false) in
    rw end at (c.blocks-2.invariant.words i h below has)
