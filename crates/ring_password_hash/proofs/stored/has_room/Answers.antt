-- SPDX-License-Identifier: ISC
use Rattle.std.proofs.Common.{arith}
use Rattle.ring_password_hash.specs.declared.text.Parameters.TheVariants.{Count}
use Rattle.ring_password_hash.proofs.Heads.{keys_len}
use Rattle.ring_password_hash.proofs.Made.{length-new}
use Rattle.ring_password_hash.proofs.Writing.{room_past, room_told, salt_shorter}
use Rattle.ring_password_hash.proofs.stored.has_room.Goals as goal

pub put_text-requires : goal.put_text-requires
put_text-requires c = λ keys. keys_len c.args.scheme Count _ c.requires keys

pub returns-in-Some-clause-told : goal.returns-in-Some-clause-told
returns-in-Some-clause-told c = λ p.
    let place = rw c.usual_parameters-parameters.ensures at c.in-Some.ensures.place in
    let size = length-new c.args.scheme p c.args.salt.now c.args.iterations _ c.requires in
    room_told _ _ size c.args.room c.in-Some.len (omega (arith, place)) c.in-Some.ensures.within

pub returns-in-Some-clause-salt : goal.returns-in-Some-clause-salt
returns-in-Some-clause-salt c = λ _.
    let shorter = salt_shorter c.args.scheme c.usual_parameters-parameters.result c.args.iterations
    c.args.salt.now c.args.kept.now in
    let place = c.in-Some.ensures.place in
    let within = c.in-Some.ensures.within in
    omega (arith, shorter, place, within)

pub returns-in-None-clause-told : goal.returns-in-None-clause-told
returns-in-None-clause-told c = λ p.
    let more = rw c.usual_parameters-parameters.ensures at c.in-None.ensures in
    let size = length-new c.args.scheme p c.args.salt.now c.args.iterations _ c.requires in
    room_past _ _ size c.args.room more
