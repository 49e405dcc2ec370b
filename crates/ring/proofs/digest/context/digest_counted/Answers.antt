-- SPDX-License-Identifier: ISC
use Rattle.std.proofs.Common.{length, ◌∙◌}
use Rattle.ring.proofs.Lengths.{HasCounted, counted_end}
use Rattle.ring.proofs.lemmas.digest.Updating.{moved_count}
use Rattle.ring.proofs.digest.context.digest_counted.Goals as goal

pub returns-clause-cost : goal.returns-clause-cost
returns-clause-cost c =
    let a = c.args.algorithm.now in
    let n = length c.args.message.now in
    let new = c.new-blocks.ensures in
    let update = c.update-rest.ensures in
    let count = moved_count update.moved update.short in
    let blocks = rw (count.0, new.algorithm) at update.moved.cost in
    let left = rw new.algorithm at count.1 in
    let taken : HasCounted a (length c.update-rest.result.now) n c.args.meter.now _ =
    record { pending = left; cost = blocks } in
    counted_end (update.moved.algorithm ∙ new.algorithm) taken c.finish_within.ensures.cost
