-- SPDX-License-Identifier: ISC
use Rattle.std.proofs.Common.{◌+◌, ◌-◌, ◌*◌, [], arith, get_or, length, take}
use Rattle.std.proofs.lemmas.List.{take_more_set}
use Rattle.ring.specs.Prelude.{each_blocks, initial_words, padded_blocks, words_at}
use Rattle.ring.proofs.Each.{blocks-one, digests-more, digests-one, each_blocks-more, message-read}
use Rattle.ring.proofs.Each.{lanes-left}
use Rattle.ring.proofs.Sums.{raised-sum}
use Rattle.ring.proofs.digest.each.digest_in_lanes.Goals as goal

pub finished-requires-clause-within : goal.finished-requires-clause-within
finished-requires-clause-within g c =
    rw (message-read c.args.messages.now c.lanes.i)
    at (c.requires.within.each c.lanes.i c.lanes-test.true)

pub finished-requires-clause-below : goal.finished-requires-clause-below
finished-requires-clause-below g c =
    rw (message-read c.args.messages.now c.lanes.i)
    at (c.fewest_blocks-count.ensures c.lanes.i c.lanes-test.true)

pub finished-requires-clause-words : goal.finished-requires-clause-words
unfolding words_at
finished-requires-clause-words g c =
    let a = c.args.algorithm in
    let i = c.lanes.i in
    let first = c.initial_state.ensures in
    let same = c.splat-states.ensures i in
    let run = c.run_lanes.ensures.words i (initial_words a)
    (omega (arith, c.lanes-test.true, c.requires.lanes))
    record { chaining = rw same first.words; count = rw same first.count } in
    rw (c.state-state.ensures.words, ← message-read c.args.messages.now i, c.requires.whole)
    run.chaining

pub lanes-preserved : goal.lanes-preserved
lanes-preserved g c =
    let a = c.args.algorithm in
    let messages = c.args.messages.now in
    let i = c.lanes.i in
    let below = c.lanes-test.true in
    let n = c.fewest_blocks-count.result in
    let fits = rw (message-read messages i) at (c.fewest_blocks-count.ensures i below) in
    let message = (get_or messages i record { ref_ptr = (0, 0); now = [] }).now in
    let own = padded_blocks a (length message) in
    let made = each_blocks a (take i messages) + (length messages - i) * n in
    let next = each_blocks a (take (i + 1) messages) + (length messages - (i + 1)) * n in
    record {
      digests = digests-more a messages i 1 c.lanes.invariant.digests
          (take_more_set c.lanes.out i c.finished.result
          (omega (arith, c.requires.within.count, c.lanes.auto.out, below)))
          (digests-one a messages i below c.finished.ensures.ok);
      cost = raised-sum c.args.meter.now made (own - n) {s = next} c.lanes.invariant.cost
          c.finished.ensures.cost (omega (
            arith,
            each_blocks-more a messages i 1,
            blocks-one a messages i below,
            lanes-left (length messages) i n own below fits,
          ));
    }
