-- SPDX-License-Identifier: ISC
use Rattle.std.proofs.Common.{◌≡◌, ◌≤◌, ◌+◌, ◌-◌, arith, drop, length, length-drop, take}
use Rattle.std.proofs.lemmas.List.{length-take-le}
use Rattle.std.proofs.lemmas.Slice.{take-put_mid}
use Rattle.ring.proofs.Each.{can-part, digests-next, digests-none}
use Rattle.ring.proofs.digest.each.digest_all.Goals as goal

pub parts-init : goal.parts-init
parts-init g c =
    record {
      within = omega arith;
      have = digests-none c.args.algorithm.now c.args.messages.now c.args.out.now c.args.meter.now;
    }

pub digest_together-requires-clause-within : goal.digest_together-requires-clause-within
digest_together-requires-clause-within g c =
    let at = c.parts.made in
    let k = c.lanes_for.result in
    let size : at + k - at ≡ k = omega arith in
    let room : at + k ≤ length c.args.out.now =
    omega (arith, c.requires.count, c.lanes_for.ensures.within, c.parts-test.true) in
    let long : length (take k (drop at c.parts.out)) ≡ k = length-take-le k (drop at c.parts.out)
    (omega (arith, length-drop at c.parts.out, c.parts.auto.out, room)) in
    rw (size, long) (can-part c.args.algorithm.now c.args.messages.now at k c.requires room)

pub parts-preserved : goal.parts-preserved
parts-preserved g c =
    let at = c.parts.made in
    let k = c.lanes_for.result in
    let size : at + k - at ≡ k = omega arith in
    let fits : at + k ≤ length c.args.messages.now =
    omega (arith, c.lanes_for.ensures.within, c.parts-test.true) in
    let part = rw size at c.digest_together.ensures in
    let messages = drop at c.args.messages.now in
    let room : k ≤ length messages = omega (arith, fits, length-drop at c.args.messages.now) in
    let long : length c.digest_together.new.out ≡ k =
    omega (arith, part.ok.count, length-take-le k messages room) in
    record {
      within = fits;
      have = digests-next at k c.parts.invariant.have
          (take-put_mid at _ c.parts.out c.digest_together.new.out (at + k) (omega (arith, long))
          (omega (arith, fits, c.parts.auto.out, c.requires.count)))
          part.ok part.cost;
    }
