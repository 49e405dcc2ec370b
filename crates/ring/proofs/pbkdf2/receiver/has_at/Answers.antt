-- SPDX-License-Identifier: ISC
use Rattle.std.proofs.Common.{◌≡◌, ◌+◌, ◌-◌, [], arith, length}
use Rattle.std.proofs.lemmas.List.{get_or_default}
use Rattle.ring.proofs.pbkdf2.receiver.has_at.Goals as goal

pub returns-clause-ok : goal.returns-clause-ok
returns-clause-ok g c =
    let values = c.args.values.now in
    let place = c.args.place in
    let k : c.args.from + length c.args.part.now - c.args.from ≡ length c.args.part.now =
    omega arith in
    rw (k, c.index-values-place.is, get_or_default values place _ [] c.requires.place) at
    c.are_same.ensures.ok
