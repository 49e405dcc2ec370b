-- SPDX-License-Identifier: ISC
use Rattle.std.proofs.Common.{◌≡◌, ◌∙◌, true, false, ap, refl, sym}
use Rattle.std.specs.Prelude.{not}
use Rattle.ring_password_hash.specs.Stored.{is_salt}
use Rattle.ring_password_hash.specs.declared.text.Parameters.TheVariants.{Count}
use Rattle.ring_password_hash.proofs.Heads.{keys_len}
use Rattle.ring_password_hash.proofs.Made.{kept_new}
use Rattle.ring_password_hash.proofs.stored.keep.Goals as goal

pub returns-then-not-has_room : goal.returns-then-not-has_room
returns-then-not-has_room c =
    let past = c.has_room.ensures.told c.args.password.now ∙ ap not c.if-not-has_room.true in
    (rw past refl, refl)

pub returns-then-not-is_salt : goal.returns-then-not-is_salt
returns-then-not-is_salt c =
    let past = c.has_room.ensures.told c.args.password.now ∙ ap not c.if-not-has_room.false in
    let salt : is_salt c.args.scheme c.args.salt.now ≡ false =
    sym c.is_salt.ensures ∙ c.if-not-is_salt.true in
    (rw (past, salt) refl, refl)

pub derive-requires : goal.derive-requires
derive-requires c = λ keys. keys_len c.args.scheme Count _ c.requires keys

pub returns-in-Ok : goal.returns-in-Ok
returns-in-Ok c =
    let past = c.has_room.ensures.told c.args.password.now ∙ ap not c.if-not-has_room.false in
    let derives = rw c.requires at c.in-Ok.ensures in
    kept_new c.args.room c.args.scheme c.args.iterations
    (sym c.is_salt.ensures ∙ c.if-not-is_salt.false) past
    (c.has_room.ensures.salt c.if-not-has_room.false) derives

pub returns-in-Err : goal.returns-in-Err
returns-in-Err c =
    let k = c.args.scheme in
    let past = c.has_room.ensures.told c.args.password.now ∙ ap not c.if-not-has_room.false in
    let salt : is_salt k c.args.salt.now ≡ true = sym c.is_salt.ensures ∙ c.if-not-is_salt.false in
    let can = rw c.requires at c.in-Err.ensures.refused in
    (rw (past, salt, can) refl, c.in-Err.ensures.unchanged)
