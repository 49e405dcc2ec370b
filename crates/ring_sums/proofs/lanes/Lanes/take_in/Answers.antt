-- SPDX-License-Identifier: ISC
use Rattle.std.proofs.Common.{◌≡◌, arith, drop, length}
use Rattle.std.proofs.lemmas.List.{take_at}
use Rattle.ring_sums.proofs.InLanes.{are-taken}
use Rattle.ring_sums.proofs.lanes.Lanes.take_in.Goals as goal

pub returns-clause-taken : goal.returns-clause-taken
returns-clause-taken g c = λ a readers all.
    let contexts = c.args.self.now.contexts in
    let new = c.update_each.new.contexts in
    let took = rw (c.deref_mut.ensures.value, c.deref-2.ensures.value) at c.in-Ok.ensures.ok in
    let long : length new ≡ contexts.len = omega (arith, took.count, contexts.ok.0) in
    rw (take_at new (drop (length new) contexts.items) contexts.len long)
    (are-taken c.args.count all (rw c.deref.ensures.value at c.in_ok-pieces.ensures) took)
