-- SPDX-License-Identifier: ISC
use Rattle.std.proofs.Common.{◌≡◌, ◌≤◌, ◌+◌, ◌-◌, arith, length, refl, length-take-le}
use Rattle.std.proofs.lemmas.Grind.{common_steps}
use Rattle.ring.specs.Prelude.{CanDigestEach}
use Rattle.ring.proofs.Each.{can-part, each_blocks-more}
use Rattle.ring.proofs.Sums.{raised-sum}
use Rattle.ring.proofs.lemmas.digest.Written.{room-next, written-next}
use Rattle.ring.proofs.digest.each.write_all.Goals as goal

pub digest_all-requires : goal.digest_all-requires
digest_all-requires g c =
    let a = c.args.algorithm.now in
    let messages = c.args.messages.now in
    let can : CanDigestEach a messages (length messages) =
    record { count = refl; each = c.requires.each } in
    let fits : c.groups.made + c.min-count.result ≤ length messages =
    omega (arith, c.min-count.ensures, c.groups-test.true) in
    grind (
      arith,
      common_steps,
      length-take-le,
      can-part a messages c.groups.made c.min-count.result can fits,
    )

pub write_digests-written-requires : goal.write_digests-written-requires
write_digests-written-requires g c =
    room-next c.args.messages.now c.groups.made c.min-count.result
    (omega (arith, c.min-count.ensures, c.groups-test.true)) c.digest_all.ensures.ok
    c.groups.invariant.written (omega (arith, c.requires.room, c.groups.auto.out))

pub groups-preserved : goal.groups-preserved
groups-preserved g c =
    let write = c.write_digests-written.ensures in
    let at = c.groups.made in
    let k = c.min-count.result in
    let size : at + k - at ≡ k = omega arith in
    let cost = rw size at c.digest_all.ensures.cost in
    record {
      written =
          written-next c.args.messages.now at k
          (omega (arith, c.min-count.ensures, c.groups-test.true)) c.digest_all.ensures.ok
          c.groups.invariant.written write.end write.ok;
      cost = raised-sum _ _ _ c.groups.invariant.cost cost
          (each_blocks-more c.args.algorithm.now c.args.messages.now at k);
    }
