-- SPDX-License-Identifier: ISC
use Rattle.std.proofs.Common.{◌≡◌, ◌+◌, ◌-◌, ◌<◌, ◌∙◌, ℕ, ap, arith, get_or, length, slice_set}
use Rattle.std.proofs.Common.{take, length-set}
use Rattle.ring.specs.Prelude.{Context, IsPartway, message_at, update_blocks, update_each_blocks}
use Rattle.ring.proofs.Each.{message-read}
use Rattle.ring.proofs.Sums.{raised-sum}
use Rattle.ring.proofs.lemmas.digest.Updates.{begun-next, blocks-next, blocks-put, changed-other}
use Rattle.ring.proofs.digest.updates.complete_each.Goals as goal

pub contexts-preserved : goal.contexts-preserved
contexts-preserved c =
    let i = c.contexts.i in
    let old = c.args.contexts.now in
    let now = c.contexts.contexts in
    let pieces = c.args.pieces.now in
    let d = c.index-contexts-i.result in
    let x = c.complete_begun.new.self in
    let r = c.complete_begun.result in
    let have = c.contexts.invariant.changed in
    let below : i < length old = omega (arith, c.contexts-test.true, have.count) in
    let here : i < length now = omega (arith, c.contexts-test.true) in
    let there : i < length pieces = omega (arith, below, c.requires.pieces) in
    let room : i < length c.contexts.rests =
    omega (arith, below, c.requires.most, c.contexts.invariant.room) in
    let partway : IsPartway (get_or now i d) x (message_at pieces i) r.now =
    rw (message-read pieces i) c.complete_begun.ensures.partway in
    let first = blocks-next old pieces i d below there in
    let second = blocks-put now c.contexts.rests i x r here room in
    let long = length (message_at pieces i) in
    let same : update_blocks (get_or now i d) long ≡ update_blocks (get_or old i d) long =
    ap (λ (z : Context). update_blocks z long) (changed-other i d have (omega arith)) in
    let within = c.contexts.invariant.within in
    let rests = c.contexts.rests in
    let after = slice_set rests i r in
    let before : ℕ = update_each_blocks (take i old) (take i pieces)
    - update_each_blocks (take i now) (take i rests) in
    let more : ℕ = update_blocks (get_or now i d) long - update_blocks x (length r.now) in
    let after_blocks : ℕ = update_each_blocks (take (i + 1) old) (take (i + 1) pieces)
    - update_each_blocks (take (i + 1) (slice_set now i x)) (take (i + 1) after) in
    record {
      room = length-set c.contexts.rests i r ∙ c.contexts.invariant.room;
      changed = begun-next x d r have below room partway c.complete_begun.ensures.ready;
      within = omega (arith, first, second, same, partway.within, within);
      cost = raised-sum c.args.meter.now before more {s = after_blocks}
          c.contexts.invariant.cost (rw (← message-read pieces i) at c.complete_begun.ensures.cost)
          (omega (arith, first, second, same, partway.within, within));
    }
