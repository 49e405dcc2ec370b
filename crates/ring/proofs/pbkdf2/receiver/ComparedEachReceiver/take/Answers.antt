-- SPDX-License-Identifier: ISC
use Rattle.std.proofs.Common.{◌≤◌, ◌<◌, ◌&&◌, [], arith, false, get_or, length, length-set}
use Rattle.std.proofs.lemmas.List.{get_or-set_other, get_or-set_same}
use Rattle.ring.proofs.lemmas.pbkdf2.Taking.{compared-part}
use Rattle.ring.proofs.pbkdf2.receiver.ComparedEachReceiver.take.Goals as goal

pub has_at-same-requires : goal.has_at-same-requires
has_at-same-requires g c =
    (omega (arith, c.requires), (omega (arith, c.requires), c.requires.bytes))

pub returns-clause-ok : goal.returns-clause-ok
returns-clause-ok g c =
    let place = c.args.place in
    let w = c.args.from in
    let part = c.args.part.now in
    let values = c.args.self.now.values.now in
    let matches = c.args.self.now.matches.now in
    let same = c.has_at-same.result in
    let now = get_or matches place false && same in
    let room : place < length matches = omega (arith, c.requires) in
    let size = c.has_at-same.ensures.len in
    let fits : w ≤ length (get_or values place []) = omega (arith, size, c.requires) in
    let count = length-set matches place now in
    record {
      here = λ start front long has.
          let value = get_or values place [] in
          let same = compared-part front part value long fits c.has_at-same.ensures.ok has.4 in
          grind (arith, count, has, size, get_or-set_same matches place now false room);
      others = λ start j front other has.
          grind (arith, count, has, get_or-set_other matches place j now false other);
    }
