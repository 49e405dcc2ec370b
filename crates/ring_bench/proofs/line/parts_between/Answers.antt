-- SPDX-License-Identifier: ISC
use Rattle.std.proofs.Common.{arith, rules, length, map, length-append}
use Rattle.std.proofs.lemmas.List.{map-append}
use Rattle.ring_bench.proofs.Texts.{parts-next, parts-last}
use Rattle.ring_bench.proofs.line.parts_between.Goals as goal

pub cuts-preserved : goal.cuts-preserved
cuts-preserved g c =
    let parts = map (λ part. part.now) c.cuts.parts.items in
    let same =
    parts-next c.args.most (length c.cuts.parts.items) parts (omega arith) c.in-Some.ensures.ok in
    rw (c.in_ok-push-2.ensures.items, map-append, length-append)
    (record { few = omega arith; same = rw same c.cuts.invariant.same })

pub returns-in_default : goal.returns-in_default
returns-in_default g c =
    let none = c.in_default.ensures.refused (search rules) in
    let parts = map (λ part. part.now) c.cuts.parts.items in
    let same =
    parts-last c.args.byte c.args.most (length c.cuts.parts.items) parts _ (omega arith) none in
    rw (c.in_ok-push.ensures.items, map-append) (rw same c.cuts.invariant.same)
