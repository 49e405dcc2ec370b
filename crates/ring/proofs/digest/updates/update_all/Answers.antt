-- SPDX-License-Identifier: ISC
use Rattle.std.proofs.lemmas.Grind.{common_steps}
use Rattle.std.proofs.Common.{◌≡◌, ◌+◌, ◌-◌, ◌≤◌, ◌∙◌, ap, arith, length, length-drop, take, drop}
use Rattle.std.proofs.Common.{sym, take-add}
use Rattle.std.proofs.lemmas.Slice.{drop-put_mid, take-put_mid}
use Rattle.std.proofs.lemmas.List.{drop-drop, get_or-take, length-take-le, take_rest}
use borrow.Rule.Slice.PartMut.{same_len_mid}
use Rattle.ring.proofs.Sums.{raised-sum}
use Rattle.ring.proofs.lemmas.digest.Updates.{blocks-more, updated-append}
use Rattle.ring.proofs.digest.updates.update_all.Goals as goal

pub update_together-requires-clause-alike : goal.update_together-requires-clause-alike
update_together-requires-clause-alike g c =
    grind (arith, common_steps, get_or-take, length-drop, length-take-le, take_rest)

pub parts-preserved : goal.parts-preserved
parts-preserved g c =
    let at = c.parts.made in
    let k = c.lanes_of.result in
    let old = c.args.contexts.now in
    let now = c.parts.contexts in
    let pieces = c.args.pieces.now in
    let have = c.parts.invariant in
    let size : at + k - at ≡ k = omega arith in
    let fits : at + k ≤ length now =
    omega (arith, c.lanes_of.ensures.within, length-drop at now, c.parts-test.true) in
    let enough : at + k ≤ length old = omega (arith, fits, have.count) in
    let given : at + k ≤ length pieces = omega (arith, enough, c.requires) in
    let part = rw have.others at (rw size at c.update_together.ensures) in
    let new = c.update_together.new.contexts in
    let long : length new ≡ k =
    omega (arith, part.ok.count, length-take-le k (drop at old), length-drop at old, enough) in
    let as_many : length (take at pieces) ≡ length (take at old) =
    omega (arith, length-take-le at pieces, length-take-le at old, enough, given) in
    let within : at ≤ length now = omega (arith, fits) in
    let there = length-take-le (at + k - at) (drop at now)
    (omega (arith, length-drop at now, fits)) in
    record {
      within = omega (arith, fits);
      count = same_len_mid at _ now new (long ∙ sym size ∙ sym there) ∙ have.count;
      updated = rw (
        take-put_mid at _ now new (at + k) (omega (arith, long)) within,
        take-add at k old,
        take-add at k pieces,
      ) (updated-append (take at pieces) _ as_many have.updated part.ok);
      others = drop-put_mid at _ now new (at + k) (omega (arith, size)) within (long ∙ sym size)
          ∙ sym (drop-drop k at now) ∙ ap (drop k) have.others ∙ drop-drop k at old;
      cost = raised-sum _ _ _ have.cost part.cost
          (blocks-more old pieces at k (omega (arith, enough)) (omega (arith, given)));
    }
